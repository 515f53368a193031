-- Laws of pixels that are off from a place on, and of a list put over zeros.
use Prim.Native.Nat.{ℕ, zero, suc, ◌+◌, ◌-◌, ◌≤◌}
use mathlib.Core.Path.{◌≡◌, refl, sym, ap, ◌∙◌}
use mathlib.Core.Bool.{true}
use mathlib.Core.List.{List, [], ◌∷◌, ◌++◌}
use native.Mathlib.Nat.{le_refl, zero-add}
use native.Mathlib.Omega.{arith}
use borrow.Author.Tests.{eqb-true}
use lib.ListN.{length, drop, set}
use lib.Seq.{sets, sets-eq, set-get_or, get_or-set_other}
use Rattle.octets.specs.Choice.{◌!◌, all}
use Rattle.octets.specs.Bytes.{is_nul}
use Rattle.octets.specs.Buffer.{zeros}
use Rattle.octets.proofs.Buffers.{length-zeros, drop-zeros}
use Rattle.octets.proofs.Lists.{all_head, all_tail}

-- every pixel from a place on is off
abbrev pub Off : List ℕ → ℕ → Type 0
Off l at = (k : ℕ) → at ≤ k → l ! k ≡ 0

pub zeros-at : (n k : ℕ) → zeros n ! k ≡ 0
unfolding zeros
zeros-at zero k = refl
zeros-at (suc n) zero = refl
zeros-at (suc n) (suc k) = zeros-at n k

-- a pixel turned off that is off
set-off : (l : List ℕ) (at x : ℕ) → l ! at ≡ 0 → x ≡ 0 → set l at x ≡ l
set-off l at x o e = ap (set l at) (e ∙ sym o) ∙ set-get_or l at 0

-- pixels turned off that are off
pub sets-off : (l : List ℕ) (at : ℕ) (xs : List ℕ) → Off l at → all is_nul xs ≡ true → sets l at xs ≡ l
unfolding is_nul
sets-off l at [] o a = refl
sets-off l at (x ∷ xs) o a =
    rw (set-off l at x (o at (le_refl at)) (eqb-true x 0 (all_head is_nul x xs a))) (sets-off l (suc at) xs (λ k h. o k (omega arith)) (all_tail is_nul x xs a))

pub off-more : (l : List ℕ) (at n : ℕ) → Off l at → Off l (at + n)
off-more l at n o k h = o k (omega arith)

-- a pixel put: those behind it are off
pub off_set : (l : List ℕ) (at v : ℕ) → Off l at → Off (set l at v) (at + 1)
off_set l at v o k h = get_or-set_other l at k v 0 (λ e. omega arith) ∙ o k (omega arith)

-- a list put over zeros
pub sets-zeros : (xs : List ℕ) (m : ℕ) → length xs ≤ m → sets (zeros m) 0 xs ≡ xs ++ zeros (m - length xs)
sets-zeros xs m h = sets-eq xs (zeros m) 0 (rw length-zeros (omega arith)) ∙ ap (λ r. xs ++ r) (ap (λ k. drop k (zeros m)) (zero-add (length xs)) ∙ drop-zeros (length xs) m)
