-- Where a lead ends: what the code counts, and the definitions.
use mathlib.Core.Path.{◌≡◌, sym, ap, ◌∙◌}
use mathlib.Core.Bool.{Bool}
use mathlib.Core.List.{List}
use Prim.Native.Nat.{ℕ, ◌+◌, ◌<◌, ◌≤◌}
use native.Mathlib.Omega.{arith}
use borrow.Author.Rules.{rules}
use borrow.Author.Tests.{lt-ltb, le-ltb, eq-eqb, ne_eqb}
use lib.ListN.{length, drop, length-drop}
use lib.Seq.{drop-drop}
use Rattle.std.specs.Prelude.{Option, Some, None}
use Rattle.octets.specs.Choice.{◌!◌, front, behind}
use Rattle.octets.specs.InnerEqual.{equals}
use Rattle.octets.specs.Bytes.{NUL, SOH, is_nul}
use Rattle.octets.proofs.Spots.{head_at, there}
use Rattle.octets.proofs.Places.{drop-front, front_length}
use Rattle.reading.specs.Lead.{led, is_soh, fewest_nul, fewest_soh, nul_lead, soh_lead, lead_of}
use Rattle.reading.specs.InnerParts.{lead_end}

-- the list from place n on is led, n bytes of it gone
led-at : (t : List ℕ) (n : ℕ) → n ≤ length t → Some n ≡ lead_end t (led (drop n t))
unfolding lead_end
led-at t n h = ap Some (simp length-drop (omega arith))

-- n bytes NUL stand at the front
module _ (t : List ℕ) (n : ℕ) (e : n ≡ 0 + length (front (equals NUL) (drop 0 t))) where
  nul-count : length (front is_nul t) ≡ n
  unfolding equals is_nul
  nul-count = omega arith

  nul-behind : behind is_nul t ≡ drop n t
  nul-behind = sym (drop-front is_nul t) ∙ rw nul-count

  module _ (printable : Bool) (k : ℕ) (f : k ≡ fewest_nul printable) where
    pub nul-few : n < k → None ≡ lead_end t (nul_lead printable t)
    unfolding nul_lead lead_end
    nul-few h = rw (nul-count, ← f, lt-ltb n k h)

    module _ (h : k ≤ n) (b : ℕ) (g : b ≡ t ! n) where
      pub nul-other : (b ≡ SOH → ⊥) → None ≡ lead_end t (nul_lead printable t)
      unfolding nul_lead lead_end
      nul-other d = rw (nul-count, ← f, le-ltb n k h, nul-behind, head_at, ← g, ne_eqb b SOH d)

      pub nul-good : b ≡ SOH → Some (n + 1) ≡ lead_end t (nul_lead printable t)
      unfolding nul_lead
      nul-good d = led-at t (n + 1) (omega (arith, there t n (omega arith))) ∙ rw (nul-count, ← f, le-ltb n k h, nul-behind, head_at, ← g, eq-eqb b SOH d, drop-drop)

-- n bytes SOH do
module _ (t : List ℕ) (n : ℕ) (e : n ≡ 0 + length (front (equals SOH) (drop 0 t))) (printable : Bool) (k : ℕ) (f : k ≡ fewest_soh printable) where
  soh-count : length (front is_soh t) ≡ n
  unfolding equals is_soh
  soh-count = omega arith

  pub soh-few : n < k → None ≡ lead_end t (soh_lead printable t)
  unfolding soh_lead lead_end
  soh-few h = rw (soh-count, ← f, lt-ltb n k h)

  pub soh-good : k ≤ n → Some n ≡ lead_end t (soh_lead printable t)
  unfolding soh_lead
  soh-good h = led-at t n (omega (arith, soh-count, front_length is_soh t)) ∙ rw (soh-count, ← f, le-ltb n k h, ← drop-front is_soh t, soh-count)

-- the first byte says which
module _ (t : List ℕ) (printable : Bool) (b : ℕ) (g : b ≡ t ! 0) (r : Option ℕ) where
  pub lead-nul : b ≡ NUL → r ≡ lead_end t (nul_lead printable t) → r ≡ lead_end t (lead_of printable t)
  unfolding lead_of
  lead-nul d e = rw (← g, eq-eqb b NUL d) e

  pub lead-soh : (b ≡ NUL → ⊥) → r ≡ lead_end t (soh_lead printable t) → r ≡ lead_end t (lead_of printable t)
  unfolding lead_of
  lead-soh d e = rw (← g, ne_eqb b NUL d) e

pub ruleset leads = (nul-few, nul-other, nul-good, soh-few, soh-good, lead-nul, lead-soh, rules)
