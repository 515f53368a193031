-- Division by twelve, rounded down: what it is.
use mathlib.Core.Path.{◌≡◌, ap, ◌∙◌}
use Prim.Native.Nat.{ℕ, suc, ◌+◌, ◌*◌, ◌-◌, ◌/◌, ◌%◌, ◌<◌}
use native.Mathlib.Omega.{arith}
use borrow.Author.Tests.{lt-ltb}
use lib.IntN.{ℤ, pos, negsuc, neg_ℤ, ◌+ℤ◌, ◌*ℤ◌}
use Rattle.signed.specs.Floor.{floor_div, floor_mod}

-- ---- what it is: twelve times the quotient and what is left make the number again, and less than twelve is left

pub left_below : (z : ℤ) → floor_mod z < 12
unfolding floor_mod
left_below (pos n) = omega arith
left_below (negsuc n) = omega arith

pub again : (z : ℤ) → floor_div z *ℤ pos 12 +ℤ pos (floor_mod z) ≡ z
unfolding floor_div floor_mod
again (pos n) = ap pos (omega arith)
again (negsuc n) =
    let k : ℕ = n / 12 * 12 + 11 in
    let e : suc (n / 12) * 12 ≡ suc k = omega arith in
    ap (λ (i : ℕ). neg_ℤ (pos i) +ℤ pos (11 - n % 12)) e
    ∙ simp (lt-ltb (11 - n % 12) (suc k) (omega arith)) (ap negsuc (omega arith))
