-- Re-forming, number by number.
use mathlib.Core.Path.{◌≡◌, refl, sym, ◌∙◌}
use mathlib.Core.List.{List}
use Prim.Native.Nat.{ℕ}
use borrow.Author.Rules.{rules}
use Rattle.std.specs.Prelude.{Result, Ok, Err}
use Rattle.header.specs.Capitals.{header_capitals}
use Rattle.reading.specs.Reading.{Reading, refused, read}
use Rattle.reading.specs.Capitals.{in_capitals}
use Rattle.forms.specs.InnerNumbers.{form_number, form_numbered}
use Rattle.forms.specs.declared.numbers.Form.{Form}
use Rattle.forms.specs.declared.numbers.NoForm.{NoForm}
use Rattle.forms.proofs.FormNumbers.{numbered-some, numbered-inside, numbered-outside}
use Rattle.writing.specs.declared.refusal.Refusal.{Refusal}
use Rattle.writing.specs.declared.source.Source.{Source}
use Rattle.writing.specs.Output.{Output, output, written_as, unwritten, put}
use Rattle.writing.specs.Reforming.{checked, put_read, reform}
use Rattle.writing.specs.InnerFrames.{text_of, blocks_of, reading_of}
use Rattle.writing.proofs.TakingLaws.{tests, made-refused, made-taken}

module _ (form : ℕ) (o : List ℕ) (y : Reading) where
  -- what is made of a reading
  abbrev made : Reading → Output
  made x = put_read form x o

  dead : (n : ℕ) → made (refused n) ≡ unwritten n o
  unfolding put_read
  dead n = refl

  pub reform-refused : {n : ℕ} → refused n ≡ y → output (written_as n 0) o ≡ put_read form y o
  reform-refused e = made-refused made o dead e

  pub reform-taken : {q : Result Source Refusal} {x : Source} {z : Output} → z ≡ put form (header_capitals (text_of x)) (blocks_of x) o
      → q ≡ Ok x → reading_of q ≡ y → z ≡ put_read form y o
  unfolding put_read
  reform-taken h g e = made-taken made o dead h g e

pub ruleset reforming = (reform-refused, reform-taken, tests, rules)

module _ (n : ℕ) (s o : List ℕ) where
  pub reform-form : {q : Result Form NoForm} → q ≡ form_numbered n → {x : NoForm} → q ≡ Err x → output (written_as 15 0) o ≡ reform n s o
  unfolding reform
  reform-form d {x} e = rw (numbered-outside n x (sym d ∙ e))

  pub reform-read : (f : Form) (z : Output) → z ≡ put_read (form_number f) (checked (in_capitals (read s))) o → {q : Result Form NoForm} → q ≡ form_numbered n → q ≡ Ok f → z ≡ reform n s o
  unfolding reform
  reform-read f z g d e = let k = sym d ∙ e in g ∙ rw (numbered-inside n f k, numbered-some n f k)

pub ruleset reforms = (reform-form, reform-read, reforming)
