-- A form and its number.
use mathlib.Core.Path.{◌≡◌, refl, sym, ap, ◌∙◌}
use mathlib.Core.Bool.{true, false}
use Prim.Native.Nat.{ℕ}
use native.Mathlib.Omega.{arith}
use borrow.Author.Rules.{rules}
use borrow.Author.Tests.{ne_eqb, eqb-true, eqb-false, le-leb, lt-leb}
use Rattle.std.specs.Prelude.{Result, Ok, Err}
use Rattle.octets.specs.Choice.{◌is◌, between}
use Rattle.octets.proofs.Tests.{compare, by-test}
use Rattle.forms.specs.InnerNumbers.{form_number, form_numbered}
use Rattle.forms.specs.declared.numbers.Form.{Form}
use Rattle.forms.specs.declared.numbers.NoForm.{NoForm}
use Rattle.forms.specs.declared.numbers.Form.TheVariants.{Plain, Summed, Printable}

module _ {f : Form} where
  pub is-plain : f ≡ Plain → form_number f ≡ 1
  is-plain e = ap form_number e

  pub is-summed : f ≡ Summed → form_number f ≡ 2
  is-summed e = ap form_number e

  pub is-printable : f ≡ Printable → form_number f ≡ 3
  is-printable e = ap form_number e

pub not-plain : (f : Form) → (f ≡ Plain → ⊥) → form_number f ≡ 1 → ⊥
not-plain Plain n e = n refl
not-plain Summed n e = omega (arith, e)
not-plain Printable n e = omega (arith, e)

pub not_printable : (f : Form) → (f ≡ Printable → ⊥) → form_number f ≡ 3 → ⊥
not_printable Plain n e = omega (arith, e)
not_printable Summed n e = omega (arith, e)
not_printable Printable n e = n refl

pub ruleset kinds = (is-plain, is-summed, is-printable, not-plain, not_printable)

-- ---- the form that has a number

module _ (n : ℕ) where
  pub numbered-plain : n ≡ 1 → Ok Plain ≡ form_numbered n
  unfolding form_numbered
  numbered-plain e = rw e

  pub numbered-summed : n ≡ 2 → Ok Summed ≡ form_numbered n
  unfolding form_numbered
  numbered-summed e = rw e

  pub numbered-printable : n ≡ 3 → Ok Printable ≡ form_numbered n
  unfolding form_numbered
  numbered-printable e = rw e

  pub numbered-none : (n ≡ 1 → ⊥) → (n ≡ 2 → ⊥) → (n ≡ 3 → ⊥) → Err (record {}) ≡ form_numbered n
  unfolding form_numbered
  numbered-none p q r = rw (ne_eqb n 1 p, ne_eqb n 2 q, ne_eqb n 3 r)

pub ruleset numbering = (numbered-plain, numbered-summed, numbered-printable, numbered-none, rules)

-- ---- what such an answer tells of the number

same-form : {f g : Form} → ◌≡◌ {A = Result Form NoForm} (Ok f) (Ok g) → g ≡ f
same-form e = cc

no-form : {X : Type 0} {f : Form} {x : NoForm} → ◌≡◌ {A = Result Form NoForm} (Ok f) (Err x) → X
no-form e = let z : ◌≡◌ {A = ℕ} 0 1 = cc in absurd (omega arith)

form-inside : (f : Form) → between 1 3 (form_number f) ≡ true
form-inside Plain = refl
form-inside Summed = refl
form-inside Printable = refl

module _ (n : ℕ) where
  pub numbered-some : (f : Form) → form_numbered n ≡ Ok f → form_number f ≡ n
  unfolding form_numbered
  numbered-some f e =
      by-test (n is 1) (λ a. ap form_number (same-form (rw a at e)) ∙ sym (eqb-true n 1 a))
      (λ a. by-test (n is 2) (λ b. ap form_number (same-form (rw (a, b) at e)) ∙ sym (eqb-true n 2 b))
      (λ b. by-test (n is 3) (λ c. ap form_number (same-form (rw (a, b, c) at e)) ∙ sym (eqb-true n 3 c))
      (λ c. no-form (sym (rw (a, b, c) at e)))))

  pub numbered-inside : (f : Form) → form_numbered n ≡ Ok f → between 1 3 n ≡ true
  numbered-inside f e = rw (← numbered-some f e) (form-inside f)

  pub numbered-outside : (x : NoForm) → form_numbered n ≡ Err x → between 1 3 n ≡ false
  unfolding form_numbered
  numbered-outside x e =
      by-test (n is 1) (λ a. no-form (rw a at e))
      (λ a. by-test (n is 2) (λ b. no-form (rw (a, b) at e))
      (λ b. by-test (n is 3) (λ c. no-form (rw (a, b, c) at e))
      (λ c. outside n (eqb-false n 1 a) (eqb-false n 2 b) (eqb-false n 3 c))))
    where
      outside : (k : ℕ) → (k ≡ 1 → ⊥) → (k ≡ 2 → ⊥) → (k ≡ 3 → ⊥) → between 1 3 k ≡ false
      outside k p q r =
          compare k 1 (λ h. rw (lt-leb 1 k h)) (λ h. compare 3 k (λ l. rw (le-leb 1 k h, lt-leb k 3 l)) (λ l. absurd (omega (arith, p, q, r))))
