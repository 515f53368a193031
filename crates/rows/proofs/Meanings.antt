-- What a text of command I can mean.
use Prim.Native.Nat.{ℕ, zero, suc, ◌-◌, ◌*◌}
use mathlib.Core.Path.{◌≡◌, refl}
use mathlib.Core.Bool.{true, false}
use mathlib.Core.List.{List, [], ◌∷◌}
use native.Mathlib.Omega.{arith}
use borrow.Author.Tests.{le-leb}
use lib.ListN.{length}
use Rattle.octets.specs.Choice.{all}
use Rattle.octets.specs.Bytes.{ZERO}
use Rattle.octets.proofs.Tests.{choice, split}
use Rattle.octets.proofs.Lists.{all_append, all_cons, all_head, all_tail}
use Rattle.pixels.specs.Pixels.{is_shade}
use Rattle.rows.specs.Rows.{without_feeds, row_text, next_text, is_pixel, well_formed, row, drawn, Meaning, malformed, picture, meaning}
use Rattle.rows.proofs.Onward.{length-drawn}
use Rattle.rows.proofs.Here.{pixel-between}

module _ (h w : ℕ) (text : List ℕ) where
  -- a well formed text means its pixels
  pub well-meaning : well_formed h (without_feeds text) ≡ true → meaning h w text ≡ picture (drawn h w (without_feeds text))
  unfolding meaning
  well-meaning g = rw g

  -- any other is malformed
  pub ill-meaning : well_formed h (without_feeds text) ≡ false → meaning h w text ≡ malformed
  unfolding meaning
  ill-meaning g = rw g

-- ---- what is drawn is 0 to 8

pixel-shade : (x : ℕ) → is_pixel x ≡ true → is_shade (x - ZERO) ≡ true
unfolding is_shade
pixel-shade x e = le-leb (x - ZERO) 8 (omega (arith, pixel-between x e))

row-shades : (w : ℕ) (t : List ℕ) → all is_pixel t ≡ true → all is_shade (row w t) ≡ true
unfolding row all is_shade
row-shades zero t a = refl
row-shades (suc w) [] a = row-shades w [] a
row-shades (suc w) (x ∷ t) a = all_cons is_shade (x - ZERO) (row w t) (pixel-shade x (all_head is_pixel x t a)) (row-shades w t (all_tail is_pixel x t a))

drawn-shades : (h w : ℕ) (l : List ℕ) → well_formed h l ≡ true → all is_shade (drawn h w l) ≡ true
unfolding well_formed drawn all
drawn-shades zero w l g = refl
drawn-shades (suc h) w l g =
    let p = split (all is_pixel (row_text l)) g in
    all_append is_shade (row w (row_text l)) (drawn h w (next_text l)) (row-shades w (row_text l) p.0) (drawn-shades h w (next_text l) p.1)

-- nothing is said of a malformed text; a picture is n pixels, each 0 to 8
abbrev pub Means : ℕ → Meaning → Type 0
Means n malformed = Unit {0}
Means n (picture ps) = (length ps ≡ n) × (all is_shade ps ≡ true)

-- whatever the text, it is malformed or means as many pixels as the picture has
pub means : (h w : ℕ) (text : List ℕ) → Means (h * w) (meaning h w text)
unfolding meaning
means h w text =
    choice
    (Means (h * w))
    (well_formed h (without_feeds text))
    (λ g. (length-drawn h w (without_feeds text), drawn-shades h w (without_feeds text) g))
    (λ g. tt)
