-- Signed numbers as the machine holds them, of whatever width: what it reads back from a number's bits is the number where that fits.
use Prim.Native.Nat.{ℕ, zero, suc, ◌+◌, ◌-◌, ◌≤◌}
use mathlib.Core.Path.{◌≡◌, refl, ap, ◌∙◌}
use mathlib.Core.Bool.{true, false, cond}
use mathlib.Core.Logic.{◌⊎◌, inl, inr}
use native.Mathlib.Omega.{arith}
use borrow.Author.Tests.{leb-true}
use lib.Dec.{T, leb, ltb}
use lib.IntN.{ℤ, pos, negsuc, neg_ℤ, sub_ℕ, ◌+ℤ◌, ◌-ℤ◌}
use lib.Signed.{mag, le_z}
use mir.Syntax.{Width}
use mir.Val.{SFits, to_z, of_z, hbits}
use mir.Facts.{to_z-of_z, sfits_widen}
use Rattle.octets.specs.Choice.{◌≤?◌}
use Rattle.octets.proofs.Tests.{split}
use Rattle.signed.specs.Between.{from_to}

-- a number from its bits
abbrev pub held : Width → ℤ → ℤ
held w z = to_z w (of_z w z)

-- a number of fewer bits has room in more, and is read back from them
module _ (v w : Width) {z : ℤ} (p : T (leb (hbits v) (hbits w))) (f : SFits v z) where
  pub wider : SFits w (held v z)
  wider = rw (to_z-of_z f) (sfits_widen p f)

  pub widened : held w (held v z) ≡ z
  widened = to_z-of_z wider ∙ to_z-of_z f

-- how large a sum can be
mag-sub : (a b : ℕ) → mag (sub_ℕ a b) ≤ a + b
mag-sub a b = elim (ltb a b) as (λ t. mag (cond t (negsuc (b - suc a)) (pos (a - b))) ≤ a + b) [ true ↦ omega arith | false ↦ omega arith ]

pub mag_sum : (y z : ℤ) → mag (y +ℤ z) ≤ mag y + mag z + 1
mag_sum (pos a) (pos b) = omega arith
mag_sum (pos a) (negsuc b) = omega (arith, mag-sub a (suc b))
mag_sum (negsuc a) (pos b) = omega (arith, mag-sub b (suc a))
mag_sum (negsuc a) (negsuc b) = omega arith

-- and a difference
pub mag-neg : (i : ℕ) → mag (neg_ℤ (pos i)) ≤ i
mag-neg zero = omega arith
mag-neg (suc i) = omega arith

pub mag_less : (z : ℤ) (i : ℕ) → mag (z -ℤ pos i) ≤ mag z + i + 1
mag_less z i = omega (arith, mag_sum z (neg_ℤ (pos i)), mag-neg i)

-- -t - 1 is -(t + 1)
pub less_one : (t : ℕ) → neg_ℤ (pos t) -ℤ pos 1 ≡ negsuc t
less_one zero = refl
less_one (suc t) = ap negsuc (omega arith)

-- ---- from one number to another: two tests of what is held, of which the first decides where it fails

module _ (lo hi z : ℤ) {w : Width} (f : SFits w z) where
  pub from_then : le_z lo (held w z) ≡ true → le_z (held w z) hi ≡ from_to lo hi z
  from_then = rw (to_z-of_z f) (λ e. rw e)

  pub from-else : le_z lo (held w z) ≡ false → le_z lo (held w z) ≡ from_to lo hi z
  from-else = rw (to_z-of_z f) (λ e. rw e)

-- how large a number is that lies from -(a + 1) to b
pub mag-between : (a b : ℕ) (z : ℤ) → from_to (negsuc a) (pos b) z ≡ true → (mag z ≤ a) ⊎ (mag z ≤ b)
mag-between a b (pos n) e = inr (leb-true n b e)
mag-between a b (negsuc n) e = inl (leb-true n a (split (n ≤? a) e).0)
