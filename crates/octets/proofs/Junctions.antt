-- Both of two tests, and either of them, as the code tells them: the first decides, or the second does.
use mathlib.Core.Path.{◌≡◌}
use mathlib.Core.Bool.{Bool, true, false, not, ◌&&◌, ◌||◌}
use Prim.Native.Nat.{ℕ, ◌<◌, ◌≤◌}
use borrow.Author.Rules.{rules}
use borrow.Author.Tests.{eq-eqb, ne_eqb, le-leb, lt-leb, not-true, not-false}
use Rattle.octets.specs.Choice.{◌is◌, ◌≤?◌}

-- two numbers, and another test
module _ (x y : ℕ) (t : Bool) where
  pub both-low : x ≤ y → t ≡ (x ≤? y && t)
  both-low h = rw (le-leb x y h)

  pub both_high : y < x → (x ≤? y) ≡ (x ≤? y && t)
  both_high h = rw (lt-leb x y h)

  pub both-same : x ≡ y → t ≡ (x is y && t)
  both-same h = rw (eq-eqb x y h)

  pub both-other : (x ≡ y → ⊥) → (x is y) ≡ (x is y && t)
  both-other h = rw (ne_eqb x y h)

  pub either-low : x ≤ y → (x ≤? y) ≡ (x ≤? y || t)
  either-low h = rw (le-leb x y h)

  pub either-high : y < x → t ≡ (x ≤? y || t)
  either-high h = rw (lt-leb x y h)

  pub either_same : x ≡ y → (x is y) ≡ (x is y || t)
  either_same h = rw (eq-eqb x y h)

  pub either-other : (x ≡ y → ⊥) → t ≡ (x is y || t)
  either-other h = rw (ne_eqb x y h)

-- a test that a call answers: x is its answer to a
module _ (x a : Bool) (e : x ≡ a) where
  pub both-no : x ≡ false → (b : Bool) → x ≡ (a && b)
  both-no f b = rw (← e, f)

  pub both_yes : x ≡ true → (y b : Bool) → y ≡ b → y ≡ (a && b)
  both_yes f y b q = rw (← e, f) q

  pub not-both : not x ≡ true → (b : Bool) → false ≡ (a && b)
  not-both f b = rw (← e, not-true x f)

  pub still_both : not x ≡ false → (y b : Bool) → y ≡ b → y ≡ (a && b)
  still_both f y b q = rw (← e, not-false x f) q

pub ruleset junctions = (both-low, both_high, both-same, both-other, either-low, either-high, either_same, either-other, both-no, both_yes, not-both, still_both, rules)
