-- Setting bits: once more is no change, the order does not matter, no other bit changes, and the fixed bits stay.
use Prim.Native.Nat.{ℕ, zero, suc, ◌%◌, ◌≤◌, ◌<◌, max}
use mathlib.Core.Path.{◌≡◌, refl, sym, ap, ◌∙◌}
use mathlib.Core.Bool.{Bool, true, not}
use native.Mathlib.Omega.{arith}
use lib.Bits.{bit_or, or_comm, or_self, and_mask}
use borrow.Author.Tests.{not-true}
use Rattle.std.specs.Prelude.{if◌then◌else◌}
use Rattle.octets.specs.Choice.{between}
use Rattle.octets.proofs.Ranges.{on}
use Rattle.octets.proofs.Tests.{by-test}
use Rattle.register.specs.Register.{bit, is_register, noted, driven_by}
use Rattle.std.proofs.lemmas.Nat.Bits.{bit_at_or, bit_at_above, same_from_bits}

-- which two of three come first does not matter: bit by bit
pub or_assoc : (a b c : ℕ) → bit_or (bit_or a b) c ≡ bit_or a (bit_or b c)
or_assoc a b c =
    same_from_bits (bit_or (bit_or a b) c) (bit_or a (bit_or b c))
    (λ i. simp bit_at_or (omega arith))

-- setting bits again changes nothing
pub again : (r m : ℕ) → noted (noted r m) m ≡ noted r m
again r m = or_assoc r m m ∙ ap (bit_or r) (or_self m)

-- the order of settings does not matter
pub either_order : (r m n : ℕ) → noted (noted r m) n ≡ noted (noted r n) m
either_order r m n = or_assoc r m n ∙ ap (bit_or r) (or_comm m n) ∙ sym (or_assoc r n m)

module _ (r m k : ℕ) where
  -- a bit that is asked for is set
  pub set-bit : bit m k ≡ 1 → bit (noted r m) k ≡ 1
  set-bit h = bit_at_or r m k ∙ rw h (omega arith)

  -- every other one is as it was
  pub others-kept : bit m k ≡ 0 → bit (noted r m) k ≡ bit r k
  others-kept h = bit_at_or r m k ∙ rw h (omega arith)

  -- and one that is set stays so
  pub set-stays : bit r k ≡ 1 → bit (noted r m) k ≡ 1
  set-stays h = bit_at_or r m k ∙ rw h (omega arith)

-- "Always 0" and "Always 1", whatever is set below them
pub fixed_kept : (r m : ℕ) → m < 64 → is_register r ≡ true → is_register (noted r m) ≡ true
unfolding is_register
fixed_kept r m h e = rw (others-kept r m 7 (omega arith), others-kept r m 6 (omega arith)) e

-- bytes with these fixed bits are 40H to 7FH: one test over all bytes, computed
pub register-range : (r : ℕ) → r < 256 → is_register r ≡ between 0x40 0x7F r
unfolding is_register
register-range r h =
    let t = on alike true 0 256 refl r (omega arith) h in
    by-test (is_register r) (λ e. e ∙ sym (rw e at t)) (λ e. e ∙ sym (not-true (between 0x40 0x7F r) (rw e at t)))
  where
    alike : ℕ → Bool
    alike x = if is_register x then between 0x40 0x7F x else not (between 0x40 0x7F x)

-- ---- what comes from the port driver

-- the byte's last three bits
driver-bits : (r b : ℕ) → driven_by r b ≡ noted r (b % 8)
driver-bits r b = ap (bit_or r) (and_mask b 3)

low_bit : (b k : ℕ) → k < 3 → bit (b % 8) k ≡ bit b k
low_bit b zero h = omega arith
low_bit b (suc zero) h = omega arith
low_bit b (suc (suc zero)) h = omega arith
low_bit b (suc (suc (suc k))) h = absurd (omega arith)

module _ (r b k : ℕ) where
  -- each of parity, framing and time-out that the byte has is set, and one that it lacks stays as it was
  pub driver-sets : k < 3 → bit (driven_by r b) k ≡ max (bit r k) (bit b k)
  driver-sets h = rw (driver-bits r b, bit_at_or r (b % 8) k, low_bit b k h)

  -- "ignores other bits"
  pub driver-ignores : 3 ≤ k → bit (driven_by r b) k ≡ bit r k
  driver-ignores h = rw (driver-bits r b) (others-kept r (b % 8) k (bit_at_above (b % 8) 3 k (omega arith) h))

pub driver-fixed : (r b : ℕ) → is_register r ≡ true → is_register (driven_by r b) ≡ true
driver-fixed r b e = rw (driver-bits r b) (fixed_kept r (b % 8) (omega arith) e)
