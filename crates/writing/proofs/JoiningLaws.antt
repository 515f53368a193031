-- Joining, number by number.
use mathlib.Core.Path.{◌≡◌, refl, sym, ap, ◌∙◌}
use mathlib.Core.Bool.{Bool, true, false, not}
use mathlib.Core.List.{List, ◌++◌}
use Prim.Native.Nat.{ℕ}
use borrow.Author.Rules.{rules}
use Rattle.std.specs.Prelude.{Result, Ok, Err}
use Rattle.octets.specs.Choice.{same}
use Rattle.header.specs.Addressing.{starts}
use Rattle.header.specs.Capitals.{header_capitals}
use Rattle.header.proofs.CapitalsLaws.{starts-same}
use Rattle.body.specs.Body.{has_read}
use Rattle.reading.specs.Reading.{Reading, refused, read}
use Rattle.reading.specs.Capitals.{in_capitals}
use Rattle.forms.specs.InnerNumbers.{form_number, form_numbered}
use Rattle.forms.specs.declared.numbers.Form.{Form}
use Rattle.forms.specs.declared.numbers.NoForm.{NoForm}
use Rattle.forms.proofs.FormNumbers.{numbered-some, numbered-inside, numbered-outside}
use Rattle.writing.specs.declared.refusal.Refusal.{Refusal}
use Rattle.writing.specs.declared.source.Source.{Source}
use Rattle.writing.specs.Output.{Output, output, written_as, unwritten, put}
use Rattle.writing.specs.Reforming.{checked}
use Rattle.writing.specs.Joining.{put_joined, join}
use Rattle.writing.specs.InnerFrames.{text_of, blocks_of, frame_of, reading_of}
use Rattle.writing.proofs.Reckonings.{source-read}
use Rattle.writing.proofs.TakingLaws.{tests, made-refused, made-taken, sums-wrong, sums-right}

-- ---- both frames are right

module _ (form : ℕ) (x y : Source) (o : List ℕ) (h g : List ℕ) (a : h ≡ text_of x) (b : g ≡ text_of y)
    (u : Bool) (e : u ≡ same (header_capitals h) (header_capitals g)) where
  test : u ≡ same (header_capitals (text_of x)) (header_capitals (text_of y))
  test = rw (← a, ← b) e

  pub join-differ : not u ≡ true → output (written_as 12 0) o ≡ put_joined form (frame_of x) (frame_of y) o
  unfolding put_joined
  join-differ f = rw (← test, f)

  module _ (f : not u ≡ false) (k : List ℕ) (c : k ≡ text_of x) (v : Bool) (d : v ≡ starts k) where
    -- a header and its capitals have one type
    type : starts (header_capitals (text_of x)) ≡ v
    type = starts-same (text_of x) ∙ sym (d ∙ ap starts c)

    pub join-starts : v ≡ true → output (written_as 19 0) o ≡ put_joined form (frame_of x) (frame_of y) o
    unfolding put_joined
    join-starts l = rw (← test, f, type, l)

    module _ (m : v ≡ false) where
      pub join-reads : x.parts.seen.read ≡ true → output (written_as 13 0) o ≡ put_joined form (frame_of x) (frame_of y) o
      unfolding put_joined
      join-reads l = let n : has_read (blocks_of x) ≡ true = sym (source-read x) ∙ l in rw (← test, f, type, m, n)

      pub join-calm : x.parts.seen.read ≡ false → (z : Output) → z ≡ put form (header_capitals (text_of x)) (blocks_of x ++ blocks_of y) o
          → z ≡ put_joined form (frame_of x) (frame_of y) o
      unfolding put_joined
      join-calm l z w = let n : has_read (blocks_of x) ≡ false = sym (source-read x) ∙ l in w ∙ rw (← test, f, type, m, n)

pub ruleset joining = (join-differ, join-starts, join-reads, join-calm, rules)

-- ---- the first frame is taken: what is made of the second

module _ (form : ℕ) (x : Source) (o : List ℕ) where
  abbrev second : Reading → Output
  second r = put_joined form (frame_of x) (checked r) o

  second-dead : (n : ℕ) → second (refused n) ≡ unwritten n o
  unfolding put_joined checked
  second-dead n = refl

  -- its sums
  module _ (t : Source) where
    pub second-wrong : not t.parts.seen.right ≡ true → output (written_as 17 0) o ≡ put_joined form (frame_of x) (checked (frame_of t)) o
    unfolding put_joined
    second-wrong f = rw (← sums-wrong t f)

    pub second-right : not t.parts.seen.right ≡ false → (z : Output) → z ≡ put_joined form (frame_of x) (frame_of t) o
        → z ≡ put_joined form (frame_of x) (checked (frame_of t)) o
    second-right f z h = h ∙ ap (λ r. put_joined form (frame_of x) r o) (sums-right t f)

  pub second-refused : {y : Reading} {n : ℕ} → refused n ≡ y → output (written_as n 0) o ≡ put_joined form (frame_of x) (checked y) o
  second-refused e = made-refused second o second-dead e

pub ruleset seconds = (second-wrong, second-right, second-refused, tests, rules)

-- ---- what is made of the first

module _ (form : ℕ) (r : Reading) (o : List ℕ) (y : Reading) where
  abbrev first : Reading → Output
  first x = put_joined form x r o

  first-dead : (n : ℕ) → first (refused n) ≡ unwritten n o
  unfolding put_joined
  first-dead n = refl

  pub first-refused : {n : ℕ} → refused n ≡ y → output (written_as n 0) o ≡ put_joined form y r o
  first-refused e = made-refused first o first-dead e

  pub first-taken : {q : Result Source Refusal} {x : Source} {z : Output} → z ≡ put_joined form (frame_of x) r o
      → q ≡ Ok x → reading_of q ≡ y → z ≡ put_joined form y r o
  first-taken h g e = made-taken first o first-dead h g e

pub ruleset firsts = (first-refused, first-taken, tests, rules)

-- ---- joining

module _ (n : ℕ) (s t o : List ℕ) where
  pub join-form : {q : Result Form NoForm} → q ≡ form_numbered n → {x : NoForm} → q ≡ Err x → output (written_as 15 0) o ≡ join n s t o
  unfolding join
  join-form d {x} e = rw (numbered-outside n x (sym d ∙ e))

  pub join-read : (f : Form) (z : Output) → z ≡ put_joined (form_number f) (checked (in_capitals (read s))) (checked (in_capitals (read t))) o
      → {q : Result Form NoForm} → q ≡ form_numbered n → q ≡ Ok f → z ≡ join n s t o
  unfolding join
  join-read f z w d e = let k = sym d ∙ e in w ∙ rw (numbered-inside n f k, numbered-some n f k)

pub ruleset joins = (join-form, join-read, firsts)
