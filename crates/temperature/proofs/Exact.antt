-- What the call answers, over what it promises: "the exact sum", and 0 where it refuses.
use Prim.Native.Nat.{ℕ, suc, ◌-◌, ◌≤◌}
use mathlib.Core.Path.{◌≡◌, refl}
use mathlib.Core.Bool.{Bool, true, false, cond}
use native.Mathlib.Omega.{arith}
use lib.Dec.{ltb}
use lib.IntN.{ℤ, pos, negsuc, sub_ℕ, ◌+ℤ◌, ◌-ℤ◌, +ℤ-neg_ℤ_cancel}
use lib.Signed.{mag}
use borrow.Author.Tests.{le-leb, leb-true}
use Rattle.octets.proofs.Tests.{choice}
use Rattle.signed.specs.Between.{from_to}
use Rattle.temperature.specs.Offset.{is_offset}
use Rattle.temperature.specs.Correcting.{is_reading, add_offset}
use Rattle.temperature.specs.declared.Corrected.{Corrected}
use Rattle.temperature.proofs.CorrectingLaws.{below, reading-mag}

-- a difference of plain numbers is no larger than either
mag-apart : (a b k : ℕ) → a ≤ k → b ≤ suc k → mag (sub_ℕ a b) ≤ k
mag-apart a b k g h = elim (ltb a b) as (λ (t : Bool). mag (cond t (negsuc (b - suc a)) (pos (a - b))) ≤ k) [ true ↦ omega arith | false ↦ omega arith ]

-- so that a sum is -137 to 136
sum-mag : (r o : ℤ) → is_reading r ≡ true → is_offset o ≡ true → mag (r +ℤ o) ≤ 136
unfolding is_offset
sum-mag (pos a) (pos b) g h = omega (arith, reading-mag (pos a) g, leb-true b 9 h)
sum-mag (pos a) (negsuc b) g h = mag-apart a (suc b) 136 (omega (arith, reading-mag (pos a) g)) (omega (arith, below b h))
sum-mag (negsuc a) (pos b) g h = mag-apart b (suc a) 136 (omega (arith, leb-true b 9 h)) (omega (arith, reading-mag (negsuc a) g))
sum-mag (negsuc a) (negsuc b) g h = omega (arith, reading-mag (negsuc a) g, below b h)

mag-from : (k : ℕ) (z : ℤ) → mag z ≤ k → from_to (negsuc k) (pos k) z ≡ true
mag-from k (pos n) h = le-leb n k h
mag-from k (negsuc n) h = rw (le-leb n k h)

-- of any answer that meets the promise
module _ (o r : ℤ) where
  -- each of the three answers
  cases : (P : Corrected → Type 0) → (is_offset o ≡ true → is_reading r ≡ true → P (record { number = 0; sum = r +ℤ o })) →
      P (record { number = 33; sum = pos 0 }) → P (record { number = 1; sum = pos 0 }) → (x : Corrected) → x ≡ add_offset o r → P x
  unfolding add_offset
  cases P a b c x p = rw p (choice P (is_offset o) (λ e. choice P (is_reading r) (λ g. a e g) (λ g. b)) (λ e. c))

  -- "the exact sum": less the offset it is the reading
  pub sum-less-offset : (x : Corrected) → x ≡ add_offset o r → x.number ≡ 0 → x.sum -ℤ o ≡ r
  sum-less-offset =
      cases (λ (x : Corrected). x.number ≡ 0 → x.sum -ℤ o ≡ r) (λ e g z. +ℤ-neg_ℤ_cancel r o) (λ z. absurd (omega arith)) (λ z. absurd (omega arith))

  -- it is -137 to 136, whatever offset and reading are
  pub sum-range : (x : Corrected) → x ≡ add_offset o r → from_to (negsuc 136) (pos 136) x.sum ≡ true
  sum-range =
      cases (λ (x : Corrected). from_to (negsuc 136) (pos 136) x.sum ≡ true) (λ e g. mag-from 136 (r +ℤ o) (sum-mag r o g e)) refl refl

  -- "in both the call answers 0"
  pub sum-none : (x : Corrected) → x ≡ add_offset o r → (x.number ≡ 0 → ⊥) → x.sum ≡ pos 0
  sum-none = cases (λ (x : Corrected). (x.number ≡ 0 → ⊥) → x.sum ≡ pos 0) (λ e g n. absurd (n refl)) (λ n. refl) (λ n. refl)
