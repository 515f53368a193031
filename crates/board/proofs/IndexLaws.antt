-- The entries of an index, as the code takes them: one by its label, how many there are, and the file that one names.
use mathlib.Core.Path.{◌≡◌, refl, sym, ◌∙◌}
use mathlib.Core.Bool.{Bool, true, false}
use mathlib.Core.List.{List}
use Prim.Native.Nat.{ℕ, ◌+◌, ◌-◌, ◌<◌, ◌≤◌}
use native.Mathlib.Omega.{arith}
use borrow.Author.Rules.{rules}
use borrow.Author.Tests.{eq-eqb, ne_eqb, le-leb, lt-leb}
use lib.ListN.{length, drop}
use Rattle.std.specs.Prelude.{Option, Some, None}
use Rattle.octets.specs.Choice.{◌is◌, ◌!◌}
use Rattle.octets.proofs.Counts.{count-one, count_none, counting}
use Rattle.octets.proofs.Tests.{compare}
use Rattle.board.specs.Files.{taken, content}
use Rattle.board.specs.Index.{FIRST-LABEL, LAST-LABEL, NOWHERE, entry, of_type, look_up}
use Rattle.board.specs.InnerNoted.{is_place, entries, Within}
use Rattle.board.specs.declared.Content.{Content}

-- ---- the entry of a label

module _ (p : List ℕ) (label : ℕ) where
  pub entry-low : label < FIRST-LABEL → NOWHERE ≡ entry p label
  unfolding entry
  entry-low h = rw (lt-leb FIRST-LABEL label h)

  pub entry-high : LAST-LABEL < label → NOWHERE ≡ entry p label
  unfolding entry
  entry-high h = rw (le-leb FIRST-LABEL label (omega arith), lt-leb label LAST-LABEL h)

  pub entry-there : FIRST-LABEL ≤ label → label ≤ LAST-LABEL → p ! (label - FIRST-LABEL) ≡ entry p label
  unfolding entry
  entry-there a b = rw (le-leb FIRST-LABEL label a, le-leb label LAST-LABEL b)

  pub entry-slot : FIRST-LABEL ≤ label → label ≤ LAST-LABEL → (i : ℕ) → i ≡ label - FIRST-LABEL → p ! i ≡ entry p label
  entry-slot a b i e = rw e (entry-there a b)

  -- a byte has no entry where it has none if it is a label
  pub entry-nowhere : (FIRST-LABEL ≤ label → label ≤ LAST-LABEL → entry p label ≡ NOWHERE) → entry p label ≡ NOWHERE
  entry-nowhere h =
      compare label FIRST-LABEL (λ a. sym (entry-low a)) (λ a. compare LAST-LABEL label (λ b. sym (entry-high b)) (λ b. h a b))

  -- a byte with an entry is a label
  pub entry-label : (entry p label ≡ NOWHERE → ⊥) → (FIRST-LABEL ≤ label) × (label ≤ LAST-LABEL)
  entry-label n =
      compare label FIRST-LABEL (λ a. absurd (n (sym (entry-low a))))
      (λ a. compare LAST-LABEL label (λ b. absurd (n (sym (entry-high b)))) (λ b. (a, b)))

pub ruleset entering = (entry-low, entry-high, entry-slot, rules)

-- ---- how many labels have one

module _ (p : List ℕ) (i : ℕ) (h : i < length p) where
  pub place_none : p ! i ≡ NOWHERE → 0 + entries (drop (i + 1) p) ≡ entries (drop i p)
  unfolding is_place
  place_none e = count_none is_place p i h false (rw (eq-eqb (p ! i) NOWHERE e)) refl

  pub place-one : (p ! i ≡ NOWHERE → ⊥) → 1 + entries (drop (i + 1) p) ≡ entries (drop i p)
  unfolding is_place
  place-one n = count-one is_place p i h true (rw (ne_eqb (p ! i) NOWHERE n)) refl

pub ruleset placing = (place_none, place-one, counting)

-- ---- the file that it names

module _ (m : List ℕ) (place kind : ℕ) where
  -- b says whether it is of that type
  module _ (b : Bool) (e : b ≡ (m ! (place + 1) is kind)) where
    pub type-other : b ≡ false → None ≡ of_type m place kind
    unfolding of_type
    type-other h = rw (← e, h)

    pub type-same : b ≡ true → (size : ℕ) → size ≡ taken (drop place m) → Some (content (place + 11) size) ≡ of_type m place kind
    unfolding of_type
    type-same h size f = rw (← e, h, ← f)

module _ (p m : List ℕ) (label place : ℕ) (e : place ≡ entry p label) where
  pub look_none : place ≡ NOWHERE → (kind : ℕ) → None ≡ look_up p m label kind
  unfolding look_up
  look_none h kind = rw (← e, eq-eqb place NOWHERE h)

  module _ (n : place ≡ NOWHERE → ⊥) where
    pub look-inside : Within p m label → place + 11 ≤ length m
    look-inside g = rw e (g.inside (λ z. n (e ∙ z)))

    pub look-some : (kind : ℕ) (r : Option Content) → r ≡ of_type m place kind → r ≡ look_up p m label kind
    unfolding look_up
    look-some kind r f = rw (← e, ne_eqb place NOWHERE n) f

pub ruleset looking = (type-other, type-same, look_none, look-inside, look-some, rules)
