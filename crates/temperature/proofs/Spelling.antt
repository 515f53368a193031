-- What a sign and a digit can set: every offset from -9 to 9 and no other, and 0 by either sign.
use Prim.Native.Nat.{ℕ, zero, suc, ◌+◌, ◌-◌, ◌≤◌}
use mathlib.Core.Path.{◌≡◌, refl, ap}
use mathlib.Core.Bool.{true}
use mathlib.Core.List.{List, [], ◌∷◌}
use native.Mathlib.Omega.{arith}
use lib.IntN.{ℤ, pos, negsuc, neg_ℤ}
use borrow.Author.Tests.{le-leb}
use Rattle.octets.specs.Choice.{◌is◌, ◌!◌}
use Rattle.octets.specs.Decimal.{is_decimal}
use Rattle.octets.proofs.Tests.{choice}
use Rattle.temperature.specs.Offset.{PLUS, MINUS, is_signed_digit, signed_digit, is_offset}
use Rattle.temperature.proofs.OffsetLaws.{second-digit, digit-most}
use Rattle.temperature.proofs.CorrectingLaws.{offset-mag, below}

-- one of ten, without and with "-"
ten : (n : ℕ) → n ≤ 9 → (is_offset (pos n) ≡ true) × (is_offset (neg_ℤ (pos n)) ≡ true)
unfolding is_offset
ten zero h = (refl, refl)
ten (suc n) h = (le-leb (suc n) 9 h, rw (le-leb n 8 (omega arith)))

-- "so -9 to 9"
pub set-offset : (d : List ℕ) → is_signed_digit d ≡ true → is_offset (signed_digit (d ! 0) (d ! 1)) ≡ true
unfolding signed_digit
set-offset d e =
    let t = ten (d ! 1 - 48) (omega (arith, digit-most (d ! 1) (second-digit d e))) in
    choice (λ (z : ℤ). is_offset z ≡ true) (d ! 0 is MINUS) (λ m. t.1) (λ m. t.0)

digit : (n : ℕ) → n ≤ 9 → is_decimal (48 + n) ≡ true
unfolding is_decimal
digit n h = rw (le-leb 48 (48 + n) (omega arith), le-leb (48 + n) 57 (omega arith))

-- each of these is set by some data
pub every-offset : (z : ℤ) → is_offset z ≡ true → (d : List ℕ) × (is_signed_digit d ≡ true) × (signed_digit (d ! 0) (d ! 1) ≡ z)
unfolding is_signed_digit signed_digit
every-offset (pos n) e = (PLUS ∷ (48 + n) ∷ [], digit n (offset-mag (pos n) e), ap pos (omega arith))
every-offset (negsuc n) e = (
  MINUS ∷ (48 + suc n) ∷ [],
  digit (suc n) (omega (arith, below n e)),
  ap (λ (k : ℕ). neg_ℤ (pos k)) {x = 48 + suc n - 48} {y = suc n} (omega arith),
)

-- ""-0" and "+0" store the same offset."
pub either-nought : signed_digit MINUS 0x30 ≡ signed_digit PLUS 0x30
unfolding signed_digit
either-nought = refl
