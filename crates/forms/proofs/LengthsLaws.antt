-- What the functions that reckon a length go by.
use mathlib.Core.Path.{◌≡◌, refl, sym}
use mathlib.Core.List.{List}
use Prim.Native.Nat.{ℕ, ◌+◌, ◌*◌}
use native.Mathlib.Omega.{arith}
use borrow.Author.Rules.{rules}
use borrow.Author.Tests.{ne_eqb}
use Rattle.std.specs.List.{count_by}
use Rattle.std.proofs.lemmas.List.Recursion.{is_count_by}
use Rattle.octets.specs.InnerCounts.{count}
use Rattle.octets.proofs.Tests.{by-test}
use Rattle.forms.proofs.FormNumbers.{kinds}
use Rattle.forms.specs.InnerLengths.{is_escaped, escapes, form_length, render_length}

-- ---- how many escapes there are

pub escapes-by : (l : List ℕ) → count_by is_escaped l ≡ escapes l
unfolding count
escapes-by l = sym (is_count_by escapes is_escaped refl (λ x xs. by-test (is_escaped x) (λ e. rw e (omega arith)) (λ e. rw e)) l)

-- ---- how long a form and a result are

module _ (form h n t : ℕ) where
  pub long-plain : form ≡ 1 → 6 + h + 3 * n + t ≡ form_length form h n t
  unfolding form_length
  long-plain e = rw e

  pub long-printable : form ≡ 3 → 2 + h + 7 * n + t ≡ form_length form h n t
  unfolding form_length
  long-printable e = rw e

  pub long-summed : form ≡ 2 → 7 + h + 7 * n + t ≡ form_length form h n t
  unfolding form_length
  long-summed e = rw e

module _ (form long n e : ℕ) where
  pub render-printable : form ≡ 3 → long + 2 * (2 + 2 * n + e) ≡ render_length form long n e
  unfolding render_length
  render-printable t = rw t

  pub render-other : (form ≡ 3 → ⊥) → long ≡ render_length form long n e
  unfolding render_length
  render-other t = rw (ne_eqb form 3 t)

pub ruleset reckoned = (kinds, long-plain, long-printable, long-summed, render-printable, render-other, rules)
