-- What a block leaves in the register, number by number; and that the fixed bits and every bit that is set stay.
use Prim.Native.Nat.{ℕ}
use mathlib.Core.Path.{◌≡◌}
use mathlib.Core.Bool.{true, ◌||◌}
use mathlib.Core.Logic.{◌⊎◌, ⊎_elim, inl, inr}
use native.Mathlib.Omega.{arith}
use borrow.Author.Rules.{rules}
use borrow.Author.Tests.{ne_eqb}
use Rattle.octets.specs.Choice.{◌is◌}
use Rattle.octets.proofs.Tests.{choice}
use Rattle.register.specs.Register.{ILLEGAL, CHECKSUM, bit, is_register, noted}
use Rattle.register.proofs.Noting.{set-stays, fixed_kept}
use Rattle.effects.specs.Recording.{fault_noted}

-- ---- as the code tells them

module _ (r n : ℕ) where
  pub sum-noted : n ≡ 20 → noted r CHECKSUM ≡ fault_noted r n
  unfolding fault_noted
  sum-noted e = rw e

  pub label-noted : (n ≡ 21) ⊎ (n ≡ 23) → noted r ILLEGAL ≡ fault_noted r n
  unfolding fault_noted
  label-noted e = ⊎_elim (λ e. rw e) (λ e. rw e) e

  -- a block of any other number leaves the register
  pub none-noted : (n ≡ 20 → ⊥) → ((n ≡ 21) ⊎ (n ≡ 23) → ⊥) → r ≡ fault_noted r n
  unfolding fault_noted
  none-noted a b = rw (ne_eqb n 20 a, ne_eqb n 21 (λ e. b (inl e)), ne_eqb n 23 (λ e. b (inr e)))

pub ruleset recording = (sum-noted, label-noted, none-noted, rules)

-- ---- what stays, whatever the number

-- a property of both masks and of none
each-fault : (P : ℕ → Type 0) (r n : ℕ) → P (noted r CHECKSUM) → P (noted r ILLEGAL) → P r → P (fault_noted r n)
unfolding fault_noted
each-fault P r n a b c = choice P (n is 20) (λ e. a) (λ e. choice P (n is 21 || n is 23) (λ e. b) (λ e. c))

-- the fixed bits
pub fault-fixed : (r n : ℕ) → is_register r ≡ true → is_register (fault_noted r n) ≡ true
fault-fixed r n e =
    each-fault (λ (x : ℕ). is_register x ≡ true) r n (fixed_kept r CHECKSUM (omega arith) e) (fixed_kept r ILLEGAL (omega arith) e) e

-- "a bit stays until cleared"
pub fault-stays : (r n k : ℕ) → bit r k ≡ 1 → bit (fault_noted r n) k ≡ 1
fault-stays r n k e = each-fault (λ (x : ℕ). bit x k ≡ 1) r n (set-stays r CHECKSUM k e) (set-stays r ILLEGAL k e) e
