-- What J tells: its bytes, which pixels it tells of, and that I draws them again.
use Prim.Native.Nat.{ℕ, zero, suc, ◌+◌, ◌*◌, ◌≤◌}
use mathlib.Core.Path.{◌≡◌, refl, sym, ap, ap₂}
use mathlib.Core.Bool.{Bool, true, false}
use mathlib.Core.List.{List, [], ◌∷◌, ◌++◌}
use native.Mathlib.Nat.{zero-mul, suc-mul}
use native.Mathlib.Omega.{arith}
use borrow.Author.Tests.{le-leb, ne_eqb, not-true}
use lib.Dec.{eqb}
use lib.ListN.{length, take, drop, length-drop}
use lib.Seq.{take-add, take-nil}
use Rattle.octets.specs.Choice.{◌!◌, ◌isn't◌, all}
use Rattle.octets.specs.Bytes.{ZERO, is_plain}
use Rattle.octets.proofs.Tests.{and_both}
use Rattle.octets.proofs.Lists.{all_append, all_cons, all_head, all_tail, all_drop, front-stop, behind-stop}
use Rattle.octets.proofs.SlicesLaws.{plain}
use Rattle.pixels.specs.Pixels.{is_shade}
use Rattle.pixels.proofs.Picturing.{shade-few}
use Rattle.rows.specs.Rows.{CR, LF, without_feeds, not_end, row_text, next_text, is_pixel, well_formed, row, drawn, picture, meaning}
use Rattle.rows.specs.Told.{characters, told_rows}

-- ---- the bytes

-- a test that "0" and every byte behind it pass
module _ (p : ℕ → Bool) (f : (x : ℕ) → ZERO ≤ x → p x ≡ true) where
  characters-all : (w : ℕ) (ps : List ℕ) → all p (characters w ps) ≡ true
  unfolding characters all
  characters-all zero ps = refl
  characters-all (suc w) ps =
      and_both (p (ZERO + ps ! 0)) (all p (characters w (drop 1 ps))) (f (ZERO + ps ! 0) (omega arith)) (characters-all w (drop 1 ps))

  -- and CR does
  rows_all : p CR ≡ true → (h w : ℕ) (ps : List ℕ) → all p (told_rows h w ps) ≡ true
  unfolding told_rows all
  rows_all e zero w ps = refl
  rows_all e (suc h) w ps =
      all_append p (characters w ps) (CR ∷ told_rows h w (drop w ps)) (characters-all w ps) (all_cons p CR (told_rows h w (drop w ps)) e (rows_all e h w (drop w ps)))

-- a reply's rows are bytes 05H to FFH
pub told-plain : (h w : ℕ) (ps : List ℕ) → all is_plain (told_rows h w ps) ≡ true
told-plain h w ps = rows_all is_plain (λ x h. plain x (omega arith)) (plain CR (omega arith)) h w ps

-- none is a line feed
isn't-feed : ℕ → Bool
isn't-feed x = x isn't LF

no-feeds : (l : List ℕ) → all isn't-feed l ≡ true → without_feeds l ≡ l
unfolding without_feeds isn't-feed
no-feeds [] a = refl
no-feeds (x ∷ l) a = rw (not-true (eqb x LF) (all_head isn't-feed x l a)) (ap (λ r. x ∷ r) (no-feeds l (all_tail isn't-feed x l a)))

told-feeds : (h w : ℕ) (ps : List ℕ) → without_feeds (told_rows h w ps) ≡ told_rows h w ps
unfolding isn't-feed
told-feeds h w ps = no-feeds (told_rows h w ps) (rows_all isn't-feed (λ x i. rw (ne_eqb x LF (λ e. omega arith))) refl h w ps)

-- ---- the pixels

characters-front : (w m : ℕ) (ps : List ℕ) → w ≤ m → characters w (take m ps) ≡ characters w ps
unfolding characters
characters-front zero m ps h = refl
characters-front (suc w) zero ps h = absurd (omega arith)
characters-front (suc w) (suc m) [] h = refl
characters-front (suc w) (suc m) (p ∷ ps) h = ap (λ l. (ZERO + p) ∷ l) (characters-front w m ps (omega arith))

drop-front : (w n m : ℕ) (ps : List ℕ) → n ≡ w + m → drop w (take n ps) ≡ take m (drop w ps)
drop-front zero n m ps e = let z : n ≡ m = omega arith in ap (λ k. take k ps) z
drop-front (suc w) zero m ps e = absurd (omega arith)
drop-front (suc w) (suc n) m [] e = sym (take-nil m)
drop-front (suc w) (suc n) m (p ∷ ps) e = drop-front w n m ps (omega arith)

-- only the first h * w pixels are told
pub told-front : (h w : ℕ) (ps : List ℕ) → told_rows h w (take (h * w) ps) ≡ told_rows h w ps
unfolding told_rows
told-front zero w ps = refl
told-front (suc h) w ps =
    let e : suc h * w ≡ w + h * w = omega (arith, suc-mul h w) in
    rw (e, characters-front w (w + h * w) ps (omega arith), drop-front w (w + h * w) (h * w) ps refl, told-front h w (drop w ps))

-- ---- and back

shade-at : (ps : List ℕ) → all is_shade ps ≡ true → ps ! 0 ≤ 8
shade-at [] a = omega arith
shade-at (p ∷ ps) a = shade-few p (all_head is_shade p ps a)

shade-pixel : (p : ℕ) → p ≤ 8 → is_pixel (ZERO + p) ≡ true
unfolding is_pixel
shade-pixel p h = rw (le-leb ZERO (ZERO + p) (omega arith), le-leb (ZERO + p) 0x38 (omega arith))

characters-pixels : (w : ℕ) (ps : List ℕ) → all is_shade ps ≡ true → all is_pixel (characters w ps) ≡ true
unfolding characters all
characters-pixels zero ps a = refl
characters-pixels (suc w) ps a =
    and_both
    (is_pixel (ZERO + ps ! 0))
    (all is_pixel (characters w (drop 1 ps)))
    (shade-pixel (ps ! 0) (shade-at ps a))
    (characters-pixels w (drop 1 ps) (all_drop is_shade 1 ps a))

row_back : (w : ℕ) (ps : List ℕ) → w ≤ length ps → row w (characters w ps) ≡ take w ps
unfolding row characters
row_back zero ps h = refl
row_back (suc w) [] h = absurd (omega arith)
row_back (suc w) (p ∷ ps) h = ap₂ (λ x l. x ∷ l) (omega arith) (row_back w ps (omega arith))

-- the first row's text, and the rest
module _ (w : ℕ) (ps l : List ℕ) where
  no_end : all not_end (characters w ps) ≡ true
  unfolding not_end
  no_end = characters-all not_end (λ x h. rw (ne_eqb x CR (λ e. omega arith))) w ps

  is-end : not_end CR ≡ false
  unfolding not_end
  is-end = refl

  text-told : row_text (characters w ps ++ (CR ∷ l)) ≡ characters w ps
  unfolding row_text
  text-told = front-stop not_end (characters w ps) CR l no_end is-end

  next-told : next_text (characters w ps ++ (CR ∷ l)) ≡ l
  unfolding next_text
  next-told = rw (behind-stop not_end (characters w ps) CR l no_end is-end)

form-told : (h w : ℕ) (ps : List ℕ) → all is_shade ps ≡ true → well_formed h (told_rows h w ps) ≡ true
unfolding well_formed told_rows
form-told zero w ps a = refl
form-told (suc h) w ps a =
    let l = told_rows h w (drop w ps) in
    rw (text-told w ps l, next-told w ps l)
    (and_both (all is_pixel (characters w ps)) (well_formed h l) (characters-pixels w ps a) (form-told h w (drop w ps) (all_drop is_shade w ps a)))

drawn-told : (h w : ℕ) (ps : List ℕ) → h * w ≤ length ps → drawn h w (told_rows h w ps) ≡ take (h * w) ps
unfolding drawn told_rows
drawn-told zero w ps n = rw (zero-mul w)
drawn-told (suc h) w ps n =
    let l = told_rows h w (drop w ps) in
    let e : suc h * w ≡ w + h * w = omega (arith, suc-mul h w) in
    let m : h * w ≤ length (drop w ps) = omega (arith, length-drop w ps) in
    rw (text-told w ps l, next-told w ps l, row_back w ps (omega arith), drawn-told h w (drop w ps) m, e, take-add w (h * w) ps)

-- what J tells of pixels 0 to 8, I draws again
pub meaning-told : (h w : ℕ) (ps : List ℕ) → all is_shade ps ≡ true → h * w ≤ length ps → meaning h w (told_rows h w ps) ≡ picture (take (h * w) ps)
unfolding meaning
meaning-told h w ps a n = rw (told-feeds h w ps, form-told h w ps a) (ap picture (drawn-told h w ps n))
