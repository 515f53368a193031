-- The counts, case by case.
use Prim.Native.Nat.{ℕ, ◌+◌}
use mathlib.Core.Path.{◌≡◌}
use borrow.Author.Rules.{rules}
use borrow.Author.Tests.{eq-eqb, ne_eqb}
use Rattle.sign.specs.Run.{tally, count, measure}
use Rattle.sign.specs.declared.Tally.{Tally}

module _ (t : Tally) (n : ℕ) where
  -- a block that was done
  pub count-done : n ≡ 0 → tally (t.done + 1) t.refused t.place t.reason t.length ≡ count t n
  unfolding count
  count-done e = rw (eq-eqb n 0 e)

  module _ (r : n ≡ 0 → ⊥) where
    -- the first that was refused
    pub count-first : t.reason ≡ 0 → tally t.done (t.refused + 1) (t.done + t.refused + 1) n t.length ≡ count t n
    unfolding count
    count-first e = rw (ne_eqb n 0 r, eq-eqb t.reason 0 e)

    -- another one
    pub count-later : (t.reason ≡ 0 → ⊥) → tally t.done (t.refused + 1) t.place t.reason t.length ≡ count t n
    unfolding count
    count-later f = rw (ne_eqb n 0 r, ne_eqb t.reason 0 f)

  -- no reply
  pub measure-none : n ≡ 0 → t ≡ measure t n
  unfolding measure
  measure-none e = rw (eq-eqb n 0 e)

  -- a reply
  pub measure-some : (n ≡ 0 → ⊥) → tally t.done t.refused t.place t.reason n ≡ measure t n
  unfolding measure
  measure-some r = rw (ne_eqb n 0 r)

pub ruleset counting = (count-done, count-first, count-later, measure-none, measure-some, rules)
