-- Records one by one: whether all are records, and the sizes of each.
use Prim.Native.Nat.{ℕ, ◌+◌, ◌-◌, ◌<◌, ◌≤◌}
use mathlib.Core.Path.{◌≡◌, refl, sym, ◌∙◌}
use mathlib.Core.List.{List, [], ◌∷◌}
use mathlib.Core.Bool.{Bool, true, false, not, ◌&&◌}
use native.Mathlib.Omega.{arith}
use borrow.Author.Rules.{rules}
use borrow.Author.Tests.{eq-eqb, ne_eqb, eqb-true, eqb-false, not-true, not-false}
use native.Mathlib.Numerals.{add-one}
use lib.ListN.{length, drop, get_or, length-drop}
use lib.Seq.{drop-cons, drop-length}
use Rattle.octets.specs.Choice.{◌is◌}
use Rattle.octets.proofs.Tests.{by-test}
use Rattle.board.specs.Files.{size_of}
use Rattle.board.specs.Soundness.{is_record}
use Rattle.board.proofs.Checks.{size_fits}
use Rattle.configuration.specs.Records.{needed_by, size_in}
use Rattle.configuration.specs.InnerFiling.{is_last, are_records}

-- whether those from place i on are records, as all are
pub record Checking (rs : List (List ℕ)) (i : ℕ) : Type 0 where
  pub few : i ≤ length rs
  pub same : are_records (drop i rs) ≡ are_records rs

-- none behind it
last-told : (l : List (List ℕ)) → is_last l ≡ (length l is 0)
last-told [] = refl
last-told (r ∷ l) = sym (ne_eqb (length (r ∷ l)) 0 (λ e. omega arith))

last-at : (rs : List (List ℕ)) (i : ℕ) → i < length rs → is_last (drop (i + 1) rs) ≡ (i + 1 is length rs)
last-at rs i h =
    last-told (drop (i + 1) rs)
    ∙ by-test (i + 1 is length rs)
    (λ t. rw t (eq-eqb (length (drop (i + 1) rs)) 0 (omega (arith, length-drop (i + 1) rs, eqb-true (i + 1) (length rs) t))))
    (λ t. let n = eqb-false (i + 1) (length rs) t in rw t (ne_eqb (length (drop (i + 1) rs)) 0 (λ z. n (omega (arith, length-drop (i + 1) rs)))))

module _ {rs : List (List ℕ)} {i : ℕ} (g : Checking rs i) where
  pub check-end : length rs ≤ i → true ≡ are_records rs
  unfolding are_records
  check-end h = let z : i ≡ length rs = omega (arith, g.few) in rw (z, drop-length rs) at g.same

  module _ (h : i < length rs) (b : Bool) (f : b ≡ is_record (i + 1 is length rs) (get_or rs i [])) where
    next : drop i rs ≡ get_or rs i [] ∷ drop (i + 1) rs
    next = rw (add-one i) (drop-cons rs i [] h)

    step : are_records (drop i rs) ≡ (b && are_records (drop (i + 1) rs))
    unfolding are_records
    step = rw (next, last-at rs i h, f)

    pub check-bad : not b ≡ true → false ≡ are_records rs
    check-bad k = sym (rw (step, not-true b k)) ∙ g.same

    pub check-on : not b ≡ false → Checking rs (i + 1)
    check-on k = record { few = omega arith; same = sym (rw (step, not-false b k)) ∙ g.same }

pub ruleset checking = (check-bad, check-on, check-end, rules)

-- ---- sizes

module _ (d : List ℕ) (size : ℕ) (e : size ≡ size_of d) where
  pub needed-least : size ≡ 0 → 12 ≡ needed_by d
  unfolding needed_by
  needed-least h = rw (← e, h)

  pub needed-size : (size ≡ 0 → ⊥) → 11 + size ≡ needed_by d
  unfolding needed_by
  needed-size h = rw (← e, ne_eqb size 0 h)

  pub size-left : size ≡ 0 → (room : ℕ) → room - 11 ≡ size_in room d
  unfolding size_in
  size-left h room = rw (← e, h)

  pub size-listed : (size ≡ 0 → ⊥) → (room : ℕ) → size ≡ size_in room d
  unfolding size_in
  size-listed h room = rw (← e, ne_eqb size 0 h)

pub ruleset sizes = (size_fits, needed-least, needed-size, size-left, size-listed, rules)
