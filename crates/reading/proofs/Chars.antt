-- What the bytes that a printable text stands for leave in a room, from each place on.
use mathlib.Core.Path.{◌≡◌, refl, sym, ap, ◌∙◌}
use mathlib.Core.Bool.{true}
use mathlib.Core.List.{List, [], ◌∷◌, ◌++◌}
use Prim.Native.Nat.{ℕ, ◌+◌, ◌-◌, ◌<◌, ◌≤◌}
use native.Mathlib.Omega.{arith}
use native.Mathlib.Numerals.{add-one}
use borrow.Author.Rules.{rules}
use borrow.Author.Tests.{eqb-true, eq-eqb}
use lib.ListN.{length, take, drop, set, length-set, length-drop, length-append, drop_of_length-le}
use lib.Seq.{sets, length-sets, drop-drop}
use Rattle.std.specs.Prelude.{Option, Some, None}
use Rattle.octets.specs.Choice.{◌is◌, behind, ◌!◌}
use Rattle.octets.specs.InnerEqual.{differs}
use Rattle.octets.specs.Buffer.{splice}
use Rattle.octets.specs.Carried.{capitals}
use Rattle.octets.specs.Bytes.{ESCAPE}
use Rattle.octets.specs.InnerDigits.{two}
use Rattle.octets.proofs.Buffers.{splice-sets, sets-append}
use Rattle.octets.proofs.Places.{take-front, drop-front, front_length}
use Rattle.octets.proofs.Spots.{drop-on, head_at}
use Rattle.octets.proofs.Told.{two_none, two-some}
use Rattle.octets.proofs.Tests.{by-test, never}
use Rattle.reading.specs.Translation.{untranslated, translated, push, translate_from, translate}
use Rattle.reading.specs.Places.{bytes_of}
use Rattle.reading.specs.InnerParts.{unmarked, is_whole}
use Rattle.reading.proofs.Translating.{translate-skip, whole-push, bytes-push, Unmarked, run-unmarked}

-- ---- "_" at a place

-- behind bytes other than "_" stands a "_"
behind-mark : (l : List ℕ) → 0 < length (behind (differs ESCAPE) l) → behind (differs ESCAPE) l ! 0 ≡ ESCAPE
unfolding behind differs
behind-mark [] h = absurd (omega arith)
behind-mark (x ∷ l) h = by-test (x is ESCAPE) (λ e. rw e (eqb-true x ESCAPE e)) (λ e. rw e (behind-mark l (rw e at h)))

-- two digits or none behind it
module _ (s : List ℕ) (i : ℕ) (h : i < length s) (e : s ! i ≡ ESCAPE) (r : Option ℕ) (f : r ≡ two (capitals (drop (i + 1) s))) where
  faulty : r ≡ None → translate_from 0 (drop i s) ≡ untranslated
  unfolding translate_from
  faulty g = rw (drop-on s i h, eq-eqb (s ! i) ESCAPE e, two_none (capitals (drop (i + 1) s)) (sym f ∙ g))

  stands : (v : ℕ) → r ≡ Some v → translate_from 0 (drop i s) ≡ push v (translate_from 0 (drop (i + 3) s))
  unfolding translate_from
  stands v g =
      let w = two-some (capitals (drop (i + 1) s)) v (sym f ∙ g) in
      let past : i + 1 + 2 ≡ i + 3 = omega arith in
      rw (drop-on s i h, eq-eqb (s ! i) ESCAPE e, w.0, w.1, translate-skip 2 (drop (i + 1) s), drop-drop, past)

-- at the end nothing is left
ended : (s : List ℕ) (i : ℕ) → length s ≤ i → translate_from 0 (drop i s) ≡ translated []
unfolding translate_from
ended s i h = rw (drop_of_length-le s h)

-- ---- putting them into a room

-- the bytes up to the next "_" from a place on, copied as a whole: e is where they end
pub run-part : (s : List ℕ) (i e : ℕ) → e ≡ i + length (unmarked (drop i s)) → take (e - i) (drop i s) ≡ unmarked (drop i s)
run-part s i e h =
    let z : e - i ≡ length (unmarked (drop i s)) = omega arith in
    rw z (take-front (differs ESCAPE) (drop i s))

module _ (s : List ℕ) (i e : ℕ) (h : e ≡ i + length (unmarked (drop i s))) where
  pub run_inside : i ≤ length s → e ≤ length s
  run_inside l = omega (arith, front_length (differs ESCAPE) (drop i s), length-drop i s)

  pub run-put : (room : List ℕ) (n : ℕ) → n + length (unmarked (drop i s)) ≤ length room → (after : List ℕ)
      → after ≡ splice room n (take (e - i) (drop i s)) → after ≡ sets room n (unmarked (drop i s))
  run-put room n k after a = a ∙ rw (run-part s i e h) (splice-sets room n (unmarked (drop i s)) k)

pub ruleset runs = (run_inside, run-put, rules)

-- so far n bytes were put into a room that was `before`, and the others have places in it
pub record Filling (s before room : List ℕ) (i n : ℕ) : Type 0 where
  pub fewer : n ≤ i
  pub long : length room ≡ length before
  pub whole : is_whole (translate_from 0 (drop i s)) ≡ true
  pub fits : n + length (bytes_of (translate_from 0 (drop i s))) ≤ length before
  pub rest : sets room n (bytes_of (translate_from 0 (drop i s))) ≡ sets before 0 (bytes_of (translate s))

pub fill_start : (s room : List ℕ) → is_whole (translate s) ≡ true → length (bytes_of (translate s)) ≤ length room → Filling s room room 0 0
unfolding translate
fill_start s room w h = record { fewer = omega arith; long = refl; whole = w; fits = omega (arith, h); rest = refl }

module _ {s before room : List ℕ} {i n : ℕ} (g : Filling s before room i n) where
  free : Unmarked (drop i s)
  free = run-unmarked (drop i s) g.whole

  pub fill-room : n + length (unmarked (drop i s)) ≤ length room
  fill-room =
      omega (arith, g.fits, g.long, ap length free.bytes, length-append (unmarked (drop i s)) (bytes_of (translate_from 0 (behind (differs ESCAPE) (drop i s)))))

  pub fill_end : length s ≤ i → room ≡ sets before 0 (bytes_of (translate s))
  unfolding bytes_of
  fill_end h = sym (rw (ended s i h)) ∙ g.rest

  -- a "_" and what stands behind it
  module _ (h : i < length s) (e : s ! i ≡ ESCAPE) (r : Option ℕ) (d : r ≡ two (capitals (drop (i + 1) s))) where
    fill_none : r ≡ None → room ≡ sets before 0 (bytes_of (translate s))
    unfolding is_whole
    fill_none f = never (sym (rw (faulty s i h e r d f) at g.whole))

    fill_on : (b : ℕ) → r ≡ Some b → (after : List ℕ) → after ≡ set room n b → Filling s before after (i + 3) (n + 1)
    fill_on b f after a =
        let t = translate_from 0 (drop (i + 3) s) in
        let z = stands s i h e r d b f in
        let w : is_whole t ≡ true = sym (rw z (whole-push b t)) ∙ g.whole in
        let k : bytes_of (translate_from 0 (drop i s)) ≡ b ∷ bytes_of t = ap bytes_of z ∙ bytes-push b t w in
        record {
          fewer = omega (arith, g.fewer);
          long = rw a (simp length-set g.long);
          whole = w;
          fits = omega (arith, g.fits, ap length k);
          rest = rw (a, add-one n) (ap (λ (l : List ℕ). sets room n l) (sym k) ∙ g.rest);
        }

-- the bytes up to the next "_", and that
module _ {s before room : List ℕ} {i n : ℕ} (g : Filling s before room i n) (mark : ℕ) (e : mark ≡ i + length (unmarked (drop i s)))
    (mid : List ℕ) (d : mid ≡ sets room n (unmarked (drop i s))) where
  past : behind (differs ESCAPE) (drop i s) ≡ drop mark s
  past = sym (drop-front (differs ESCAPE) (drop i s)) ∙ drop-drop (length (unmarked (drop i s))) i s ∙ ap (λ k. drop k s) (sym e)

  mark-there : mark < length s → s ! mark ≡ ESCAPE
  mark-there h = sym (head_at s mark) ∙ ap (λ (l : List ℕ). l ! 0) (sym past) ∙ behind-mark (drop i s) (rw past (omega (arith, length-drop mark s)))

  marked : Filling s before mid mark (n + (mark - i))
  marked =
      let x = unmarked (drop i s) in
      let y = bytes_of (translate_from 0 (drop mark s)) in
      let b : bytes_of (translate_from 0 (drop i s)) ≡ x ++ y = rw past at (free g).bytes in
      let k : n + (mark - i) ≡ n + length x = omega (arith, e) in
      record {
        fewer = omega (arith, g.fewer, e);
        long = rw (d, length-sets) g.long;
        whole = rw past at (free g).whole;
        fits = omega (arith, g.fits, ap length b, length-append x y, e);
        rest = rw (d, k) (sym (sets-append room n x y) ∙ ap (λ (l : List ℕ). sets room n l) (sym b) ∙ g.rest);
      }

  pub fill-short : length s ≤ mark → mid ≡ sets before 0 (bytes_of (translate s))
  fill-short h = fill_end marked h

  module _ (h : mark < length s) (r : Option ℕ) (f : r ≡ two (capitals (drop (mark + 1) s))) where
    pub fill-faulty : r ≡ None → mid ≡ sets before 0 (bytes_of (translate s))
    fill-faulty k = fill_none marked h (mark-there h) r f k

    pub fill-next : (b : ℕ) → r ≡ Some b → (after : List ℕ) → after ≡ set mid (n + (mark - i)) b → Filling s before after (mark + 3) (n + (mark - i) + 1)
    fill-next b k after a = fill_on marked h (mark-there h) r f b k after a

pub ruleset filling = (fill_start, fill-room, fill_end, fill-short, fill-faulty, fill-next, rules)
