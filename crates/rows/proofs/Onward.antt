-- The pixels that are to come, from the middle of a row on.
use Prim.Native.Nat.{ℕ, zero, suc, ◌-◌, ◌*◌, ◌≤◌}
use mathlib.Core.Path.{◌≡◌, refl, sym, ap}
use mathlib.Core.Bool.{true}
use mathlib.Core.List.{List, [], ◌∷◌, ◌++◌}
use native.Mathlib.Nat.{zero-mul, suc-mul}
use native.Mathlib.Omega.{arith}
use lib.ListN.{length, length-append}
use Rattle.octets.specs.Choice.{all}
use Rattle.octets.specs.Bytes.{ZERO, is_nul}
use Rattle.octets.specs.Buffer.{zeros}
use Rattle.octets.proofs.Lists.{all_append}
use Rattle.octets.proofs.Buffers.{zeros-nul}
use Rattle.rows.specs.Rows.{CR, row_text, next_text, row, drawn}
use Rattle.rows.proofs.Texts.{text-end, next-end, text-on, next-on, text-none, next-none}

-- h rows, the first of them with room for r pixels more
unfoldable pub onward : ℕ → ℕ → ℕ → List ℕ → List ℕ
onward zero r w l = []
onward (suc h) r w l = row r (row_text l) ++ drawn h w (next_text l)

pub onward-drawn : (h w : ℕ) (l : List ℕ) → onward h w w l ≡ drawn h w l
unfolding onward drawn
onward-drawn zero w l = refl
onward-drawn (suc h) w l = refl

-- ---- lengths

length-row : (w : ℕ) (t : List ℕ) → length (row w t) ≡ w
unfolding row
length-row zero t = refl
length-row (suc w) [] = ap suc (length-row w [])
length-row (suc w) (x ∷ t) = ap suc (length-row w t)

pub length-drawn : (h w : ℕ) (l : List ℕ) → length (drawn h w l) ≡ h * w
unfolding drawn
length-drawn zero w l = sym (zero-mul w)
length-drawn (suc h) w l =
    omega (arith, length-append (row w (row_text l)) (drawn h w (next_text l)), length-row w (row_text l), length-drawn h w (next_text l), suc-mul h w)

pub onward-room : (h r w : ℕ) (l : List ℕ) → r ≤ length (onward (suc h) r w l)
unfolding onward
onward-room h r w l = omega (arith, length-append (row r (row_text l)) (drawn h w (next_text l)), length-row r (row_text l))

-- ---- by the first byte

row-none : (w : ℕ) → row w [] ≡ zeros w
unfolding row zeros
row-none zero = refl
row-none (suc w) = ap (λ l. 0 ∷ l) (row-none w)

module _ (h w x : ℕ) (l : List ℕ) where
  pub onward-end : (r : ℕ) → x ≡ CR → onward (suc h) r w (x ∷ l) ≡ zeros r ++ onward h w w l
  unfolding onward
  onward-end r e = rw (text-end x l e, next-end x l e, row-none r, onward-drawn h w l)

  pub onward-skip : (x ≡ CR → ⊥) → onward (suc h) 0 w (x ∷ l) ≡ onward (suc h) 0 w l
  unfolding onward row
  onward-skip n = rw (next-on x l n)

  pub onward-set : (r : ℕ) → (x ≡ CR → ⊥) → onward (suc h) (suc r) w (x ∷ l) ≡ (x - ZERO) ∷ onward (suc h) r w l
  unfolding onward row
  onward-set r n = rw (text-on x l n, next-on x l n)

-- ---- when no text is left

drawn-none : (h w : ℕ) → all is_nul (drawn h w []) ≡ true
unfolding drawn all
drawn-none zero w = refl
drawn-none (suc h) w = rw (text-none, next-none, row-none w) (all_append is_nul (zeros w) (drawn h w []) (zeros-nul w) (drawn-none h w))

pub onward-none : (h r w : ℕ) → all is_nul (onward h r w []) ≡ true
unfolding onward all
onward-none zero r w = refl
onward-none (suc h) r w = rw (text-none, next-none, row-none r) (all_append is_nul (zeros r) (drawn h w []) (zeros-nul r) (drawn-none h w))
