-- Why a list is refused: 25, 26, 27; and what holds of one that is not.
use Prim.Native.Nat.{ℕ, ◌*◌, ◌/◌, ◌%◌, ◌^◌, ◌≤◌, ◌<◌}
use mathlib.Core.Path.{◌≡◌, sym, ap, ◌∙◌}
use mathlib.Core.List.{List}
use mathlib.Core.Bool.{Bool, not, true, false}
use borrow.Author.Rules.{rules}
use borrow.Author.Tests.{eq-eqb, eqb-true, lt-ltb, le-ltb, ltb-false, not-true, not-false}
use native.Mathlib.Omega.{arith}
use lib.ListN.{length}
use Rattle.std.specs.List.{sum_by}
use Rattle.std.specs.Simd.{first_chunks}
use Rattle.octets.specs.Choice.{◌is◌, ◌<?◌}
use Rattle.octets.proofs.Tests.{by-test, never}
use Rattle.board.specs.Files.{distinct}
use Rattle.configuration.specs.Records.{is_records, labels_in, needed, needed_by, refusal}
use Rattle.configuration.specs.InnerFiling.{are_records, labels_of}
use Rattle.configuration.proofs.Cuts.{cut-count, cut-labels, cut-needed, cut-records, needed-most, listed-long}

-- rs are the records that it is cut into, k bytes are behind them, and x says whether these are none
module _ (d : List ℕ) (room : ℕ) (rs : List (List ℕ)) (k : ℕ) (x : Bool) (r : rs ≡ first_chunks 11 (length d / 11) d) (l : k ≡ length d % 11) (q : x ≡ (k is 0)) where
  bad : (is_records 64 d ≡ true → ⊥) → 25 ≡ refusal d room
  unfolding refusal
  bad n = by-test (is_records 64 d) (λ t. absurd (n t)) (λ t. rw t)

  so-many : length rs ≡ length d / 11
  so-many = ap length r ∙ cut-count (length d / 11) d

  pub refusal-rest : not x ≡ true → 25 ≡ refusal d room
  refusal-rest f = bad (λ t. never (sym (sym (not-true x f) ∙ q ∙ eq-eqb k 0 (omega (arith, l, (listed-long d t).0)))))

  pub refusal-many : 64 < length rs → 25 ≡ refusal d room
  refusal-many h = bad (λ t. omega (arith, so-many, (listed-long d t).1))

  module _ (z : not x ≡ false) (h : length rs ≤ 64) where
    whole : length d ≡ 11 * (length d / 11)
    whole = omega (arith, l, eqb-true k 0 (sym q ∙ not-false x z))

    -- b says whether they are records
    module _ (b : Bool) (e : b ≡ are_records rs) where
      good : is_records 64 d ≡ b
      good = sym (cut-records (length d / 11) 64 d whole (omega (arith, so-many))) ∙ ap are_records (sym r) ∙ sym e

      pub refusal-bad : not b ≡ true → 25 ≡ refusal d room
      refusal-bad f = bad (λ t. never (sym t ∙ good ∙ not-true b f))

      -- c says whether their labels are distinct
      module _ (y : not b ≡ false) (c : Bool) (g : c ≡ distinct (labels_of rs)) where
        f : b ≡ true
        f = not-false b y

        apart : distinct (labels_in (length d / 11) d) ≡ c
        apart = ap distinct (sym (ap labels_of r ∙ cut-labels (length d / 11) d)) ∙ sym g

        pub refusal-twice : not c ≡ true → 26 ≡ refusal d room
        unfolding refusal
        refusal-twice i = rw (good, f, apart, not-true c i)

        -- they take j bytes
        module _ (i : not c ≡ false) (j : ℕ) (w : j ≡ sum_by needed_by rs) where
          takes : needed (length d / 11) d ≡ j
          takes = sym (cut-needed (length d / 11) d whole) ∙ ap (sum_by needed_by) (sym r) ∙ sym w

          pub refusal-full : room < j → 27 ≡ refusal d room
          unfolding refusal
          refusal-full v = rw (good, f, apart, not-false c i, takes, lt-ltb room j v)

          pub refusal-none : j ≤ room → 0 ≡ refusal d room
          unfolding refusal
          refusal-none v = rw (good, f, apart, not-false c i, takes, le-ltb room j v)

pub needed-fits : (rs : List (List ℕ)) → length rs ≤ 64 → sum_by needed_by rs < 2 ^ 64
needed-fits rs h = omega (arith, needed-most rs)

pub ruleset refusing = (refusal-rest, refusal-many, refusal-bad, refusal-twice, refusal-full, refusal-none, needed-fits, rules)

-- a list that is not refused
pub record Accepted (d : List ℕ) (room : ℕ) : Type 0 where
  pub good : is_records 64 d ≡ true
  pub apart : distinct (labels_in (length d / 11) d) ≡ true
  pub fits : needed (length d / 11) d ≤ room

pub accepted : (d : List ℕ) (room : ℕ) → refusal d room ≡ 0 → Accepted d room
unfolding refusal
accepted d room e =
    by-test (is_records 64 d)
    (λ a.
    by-test (distinct (labels_in (length d / 11) d))
    (λ b.
    by-test (room <? needed (length d / 11) d)
    (λ c. let z : 27 ≡ 0 = rw (a, b, c) at e in absurd (omega arith))
    (λ c. record { good = a; apart = b; fits = ltb-false room (needed (length d / 11) d) c }))
    (λ b. let z : 26 ≡ 0 = rw (a, b) at e in absurd (omega arith)))
    (λ a. let z : 25 ≡ 0 = rw a at e in absurd (omega arith))
