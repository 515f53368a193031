-- "each entry is the one before plus that month's length, checked once": a test over a whole table, and the rule at each entry.
use Prim.Native.Nat.{ℕ, zero, suc, ◌+◌, ◌<◌}
use mathlib.Core.Path.{◌≡◌, sym, ap, ◌∙◌, subst}
use mathlib.Core.Bool.{Bool, true, false, ◌&&◌}
use mathlib.Core.List.{List, [], ◌∷◌}
use native.Mathlib.Nat.{le_of_suc-le-suc, not-suc-le-zero}
use native.Mathlib.Omega.{arith}
use borrow.Author.Rules.{rules}
use borrow.Author.Tests.{eqb-true}
use lib.ListN.{length}
use Rattle.octets.specs.Choice.{◌is◌, ◌!◌}
use Rattle.octets.proofs.Tests.{never, split}
use Rattle.renewal.specs.Counting.{length_of, days_before}

-- behind the entry x of month k, each entry is the one before plus that month's length
abbrev pub grows : ℕ → ℕ → List ℕ → Bool
grows k x [] = true
grows k x (y ∷ l) = y is (x + length_of k) && grows (suc k) y l

-- and the first entry is 0
abbrev pub is_table : List ℕ → Bool
is_table [] = false
is_table (x ∷ l) = x is 0 && grows 0 x l

from : (k : ℕ) (l : List ℕ) → grows k (days_before k) l ≡ true → (i : ℕ) → i < suc (length l) → (days_before k ∷ l) ! i ≡ days_before (k + i)
from k l t zero h = ap days_before (omega arith)
from k [] t (suc i) h = absurd (not-suc-le-zero (le_of_suc-le-suc h))
from k (y ∷ l) t (suc i) h =
    let c = split (y is (days_before k + length_of k)) t in
    let e : y ≡ days_before (suc k) = unfold days_before in eqb-true y (days_before k + length_of k) c.0 in
    ap (λ (x : ℕ). (x ∷ l) ! i) e
    ∙ from (suc k) l (subst (λ (x : ℕ). grows (suc k) x l ≡ true) e c.1) i (le_of_suc-le-suc h)
    ∙ ap days_before (omega arith)

-- the rule at each entry
pub at_each : (l : List ℕ) → is_table l ≡ true → (k : ℕ) → k < length l → l ! k ≡ days_before k
unfolding days_before
at_each [] t k h = never (sym t)
at_each (x ∷ l) t k h =
    let c = split (x is 0) t in
    let e : x ≡ days_before 0 = eqb-true x 0 c.0 in
    let z : 0 + k ≡ k = omega arith in
    ap (λ (y : ℕ). (y ∷ l) ! k) e ∙ from 0 l (subst (λ (y : ℕ). grows 0 y l ≡ true) e c.1) k h ∙ ap days_before z

pub ruleset entries = (at_each, rules)
