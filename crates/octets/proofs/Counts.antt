-- How many numbers of a list pass a test: its laws, and what holds while they are counted.
use mathlib.Core.Path.{◌≡◌, sym, ◌∙◌}
use mathlib.Core.Bool.{Bool, true, false}
use mathlib.Core.List.{List, [], ◌∷◌, ◌++◌}
use Prim.Native.Nat.{ℕ, suc, ◌+◌, ◌<◌, ◌≤◌}
use native.Mathlib.Omega.{arith}
use mir.Syntax.{w16}
use mir.Val.{Fits}
use borrow.Author.Rules.{rules}
use lib.ListN.{length, drop, drop_of_length-le}
use Rattle.octets.specs.Choice.{◌!◌}
use Rattle.octets.specs.InnerCounts.{count}
use Rattle.octets.proofs.Spots.{drop-on}
use Rattle.octets.proofs.Tests.{choice, by-test}

module _ (p : ℕ → Bool) where
  -- a number in front that passes
  pub count-more : (x : ℕ) (l : List ℕ) → p x ≡ true → count p (x ∷ l) ≡ suc (count p l)
  unfolding count
  count-more x l e = rw e

  -- or does not
  pub count_same : (x : ℕ) (l : List ℕ) → p x ≡ false → count p (x ∷ l) ≡ count p l
  unfolding count
  count_same x l e = rw e

  -- no more than there are
  pub count-few : (l : List ℕ) → count p l ≤ length l
  unfolding count
  count-few [] = omega arith
  count-few (x ∷ l) = choice (λ (n : ℕ). n ≤ length (x ∷ l)) (p x) (λ e. omega (arith, count-few l)) (λ e. omega (arith, count-few l))

  -- one list behind the other
  pub count-append : (l m : List ℕ) → count p (l ++ m) ≡ count p l + count p m
  unfolding count
  count-append [] m = omega arith
  count-append (x ∷ l) m = by-test (p x) (λ e. rw e (omega (arith, count-append l m))) (λ e. rw e (count-append l m))

  -- r tells of the number at place i
  module _ (s : List ℕ) (i : ℕ) (h : i < length s) (r : Bool) (e : r ≡ p (s ! i)) where
    pub count-one : r ≡ true → 1 + count p (drop (i + 1) s) ≡ count p (drop i s)
    count-one t = rw (drop-on s i h, count-more (s ! i) (drop (i + 1) s) (sym e ∙ t)) (omega arith)

    pub count_none : r ≡ false → 0 + count p (drop (i + 1) s) ≡ count p (drop i s)
    count_none t = rw (drop-on s i h, count_same (s ! i) (drop (i + 1) s) (sym e ∙ t)) (omega arith)

-- those before place i are counted
pub record Counted (p : ℕ → Bool) (s : List ℕ) (n i : ℕ) : Type 0 where
  pub inside : i ≤ length s
  pub few : n ≤ i
  pub same : n + count p (drop i s) ≡ count p s

pub count-start : (p : ℕ → Bool) (s : List ℕ) → Counted p s 0 0
count-start p s = record { inside = omega arith; few = omega arith; same = omega arith }

module _ {p : ℕ → Bool} {s : List ℕ} {n i : ℕ} (g : Counted p s n i) where
  module _ (h : i < length s) (v : ℕ) (m : v ≤ 1) where
    -- in numbers of two bytes
    pub count_fits : length s < 65536 → Fits w16 (n + v)
    count_fits l = record { fits = omega (arith, g.few) }

    pub count-on : v + count p (drop (i + 1) s) ≡ count p (drop i s) → Counted p s (n + v) (i + 1)
    count-on e = record { inside = omega arith; few = omega (arith, g.few); same = omega (arith, g.same, e) }

  pub count-end : length s ≤ i → n ≡ count p s
  unfolding count
  count-end h = let e : n + 0 ≡ count p s = rw (drop_of_length-le s h) at g.same in omega (arith, e)

pub ruleset counting = (count-one, count_none, count-start, count_fits, count-on, count-end, rules)
