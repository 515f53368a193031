-- Labels of records: what holds while records are gone along, the first of those that are left at a time.
use Prim.Native.Nat.{ℕ}
use mathlib.Core.Path.{◌≡◌, refl, sym, ap, ◌∙◌}
use mathlib.Core.Bool.{Bool, true, false, not, ◌&&◌, ◌||◌}
use mathlib.Core.List.{List, [], ◌∷◌}
use native.Mathlib.Omega.{arith}
use borrow.Author.Rules.{rules}
use lib.ListN.{length}
use Rattle.std.specs.List.{list_any}
use Rattle.octets.specs.Choice.{◌is◌, ◌!◌, among}
use Rattle.board.specs.Files.{distinct}
use Rattle.configuration.specs.InnerFiling.{labels_of}

-- a label among those
any-label : (label : ℕ) (rs : List (List ℕ)) → list_any (λ r. r ! 0 is label) rs ≡ among label (labels_of rs)
unfolding among labels_of
any-label label [] = refl
any-label label (r ∷ rs) = ap (λ (t : Bool). r ! 0 is label || t) (any-label label rs)

-- whether the labels of those that are left are distinct, as those of all are
pub record Parting (all left : List (List ℕ)) : Type 0 where
  pub same : distinct (labels_of left) ≡ distinct (labels_of all)

module _ {all left : List (List ℕ)} (g : Parting all left) where
  pub part_end : length left ≡ 0 → true ≡ distinct (labels_of all)
  unfolding distinct labels_of
  part_end e = go left e ∙ g.same
    where
      go : (l : List (List ℕ)) → length l ≡ 0 → true ≡ distinct (labels_of l)
      go [] z = refl
      go (r ∷ l) z = absurd (omega arith)

  module _ (head : List ℕ) (behind : List (List ℕ)) (e : left ≡ head ∷ behind) (b : Bool) (f : b ≡ list_any (λ r. r ! 0 is (head ! 0)) behind) where
    step : distinct (labels_of left) ≡ (not b && distinct (labels_of behind))
    unfolding distinct labels_of
    step = rw (e, f, any-label (head ! 0) behind)

    pub part-twice : b ≡ true → false ≡ distinct (labels_of all)
    part-twice h = sym (rw (step, h)) ∙ g.same

    pub part-on : b ≡ false → Parting all behind
    part-on h = record { same = sym (rw (step, h)) ∙ g.same }

pub ruleset parting = (part_end, rules)
