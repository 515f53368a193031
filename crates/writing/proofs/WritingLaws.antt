-- Writing a one-command frame, number by number.
use mathlib.Core.Path.{◌≡◌, refl, sym, ◌∙◌}
use mathlib.Core.Bool.{Bool, true, false, not, ◌&&◌}
use mathlib.Core.List.{List, [], ◌∷◌}
use Prim.Native.Nat.{ℕ, ◌+◌, ◌<◌, ◌≤◌}
use native.Mathlib.Omega.{arith}
use borrow.Author.Rules.{rules}
use borrow.Author.Tests.{lt-ltb, not-false}
use lib.Dec.{lit≤}
use lib.ListN.{length}
use Rattle.std.specs.Prelude.{◌%◌, Result, Ok, Err, if◌then◌else◌}
use Rattle.octets.specs.Choice.{◌is◌, all}
use Rattle.octets.specs.Bytes.{ETX, TRANSLATED, is_plain}
use Rattle.octets.specs.InnerCounts.{count}
use Rattle.octets.proofs.Counts.{count-few}
use Rattle.octets.proofs.Tests.{choice, by-test}
use Rattle.octets.proofs.SlicesLaws.{plain, not_plain}
use Rattle.header.specs.Header.{is_header}
use Rattle.header.specs.Capitals.{header_capitals}
use Rattle.header.proofs.CapitalsLaws.{header-long}
use Rattle.header.proofs.Texts.{header-length}
use Rattle.body.specs.Body.{block}
use Rattle.body.specs.InnerSurveying.{text_bytes}
use Rattle.body.specs.Sum.{checksum}
use Rattle.body.specs.InnerWalking.{opening, added_up}
use Rattle.body.proofs.Plain.{Plain}
use Rattle.body.proofs.SumLaws.{added-some, added-none, sum-added}
use Rattle.forms.specs.Forms.{form_of}
use Rattle.forms.specs.InnerLengths.{is_escaped, escapes, block_escapes, form_length}
use Rattle.forms.proofs.FormLengths.{form-length, header-itself}
use Rattle.forms.specs.InnerNumbers.{form_number, form_numbered}
use Rattle.forms.specs.declared.numbers.Form.{Form}
use Rattle.forms.specs.declared.numbers.NoForm.{NoForm}
use Rattle.forms.proofs.FormNumbers.{kinds, numbered-some, numbered-inside, numbered-outside}
use Rattle.writing.specs.declared.Written.{Written}
use Rattle.writing.specs.Output.{Output, is_over, output, written_as, unwritten, put_number, put}
use Rattle.writing.specs.Writing.{write}
use Rattle.writing.specs.InnerSources.{Writable, Reckoned, escapes_in, fitted, answered}
use Rattle.writing.specs.InnerFrames.{block_of}
use Rattle.writing.specs.declared.single.Single.{Single}
use Rattle.writing.proofs.Reckonings.{escapes-other}
use Rattle.writing.proofs.Results.{fitted-by}

-- ---- the escapes of the block

module _ (x : Single) where
  single-escapes : escapes (x.command ∷ []) + escapes x.text.now ≡ block_escapes (block_of x)
  unfolding block_escapes count block_of
  single-escapes = by-test (is_escaped x.command) (λ e. rw e (omega arith)) (λ e. rw e (omega arith))

  pub written-escapes : (form : ℕ) → form ≡ 3 → (a b : ℕ) → a ≡ escapes (x.command ∷ []) → b ≡ escapes x.text.now → a + b ≡ escapes_in form (block_of x)
  unfolding escapes_in
  written-escapes form t a b e f = rw (t, e, f) single-escapes

pub ruleset escaped = (kinds, escapes-other, written-escapes, rules)

-- ---- numbers and lengths

-- a form stands for all of the data
form-bytes : (form h n t : ℕ) → t ≤ form_length form h n t
unfolding form_length
form-bytes form h n t =
    choice (λ m. t ≤ m) (form is 1) (λ e. omega arith) (λ e. choice (λ m. t ≤ m) (form is 3) (λ f. omega arith) (λ f. omega arith))

module _ (form : ℕ) (x : Single) where
  single-bytes : text_bytes (block_of x) ≡ length x.text.now
  unfolding text_bytes block_of
  single-bytes = omega arith

  single-plain : Plain (block_of x)
  unfolding block_of
  single-plain = (record { leading = x.writable.command; following = x.writable.text }, tt)

  single-one : 1 ≡ length (block_of x)
  unfolding block_of
  single-one = refl

  -- long data make a long form
  pub written-long : TRANSLATED < length x.text.now → (room : ℕ) → written_as 18 0 ≡ answered form (header_capitals x.header.now) (block_of x) room
  unfolding answered put_number is_over
  written-long t room =
      let n = length (form_of form (header_capitals x.header.now) (block_of x)) in
      let k = form-length form (header_capitals x.header.now) (block_of x) (omega (arith, single-one)) in
      let l = form-bytes form (length (header_capitals x.header.now)) (length (block_of x)) (text_bytes (block_of x)) in
      rw (← single-one, lt-ltb TRANSLATED n (omega (arith, k, l, single-bytes)))

  module _ (t : length x.text.now ≤ TRANSLATED) (e : ℕ) (f : e ≡ escapes_in form (block_of x)) where
    escapes-in : escapes_in form (block_of x) ≤ 8193
    unfolding escapes_in
    escapes-in =
        choice (λ n. n ≤ 8193) (form is 3)
        (λ z. omega (arith, single-escapes x, count-few is_escaped (x.command ∷ []), count-few is_escaped x.text.now)) (λ z. omega arith)

    pub written-reckoned : Reckoned (length x.header.now) 1 (length x.text.now) e
    written-reckoned =
        let w = header-length x.header.now x.writable.header in
        record {
          header = omega (arith, w.few, w.long);
          count = lit≤ tt;
          text = omega arith;
          escapes = omega (arith, escapes-in);
        }

    pub written-fitted : (room : ℕ) (r : Written) → r ≡ fitted form (length x.header.now) 1 (length x.text.now) e room
        → r ≡ answered form (header_capitals x.header.now) (block_of x) room
    written-fitted room r q =
        fitted-by form (header_capitals x.header.now) (block_of x) (omega (arith, single-one)) (header-itself x.header.now x.writable.header) single-plain
        (length x.header.now) 1 (length x.text.now) e (sym (header-long x.header.now)) single-one (sym single-bytes) f room r q

pub ruleset fitting = (written-long, written-reckoned, written-fitted, rules)

-- ---- writing

module _ (n : ℕ) (h : List ℕ) (c : ℕ) (d o : List ℕ) where
  pub write-form : {q : Result Form NoForm} → q ≡ form_numbered n → {x : NoForm} → q ≡ Err x → output (written_as 15 0) o ≡ write n h c d o
  unfolding write
  write-form d {x} e = rw (numbered-outside n x (sym d ∙ e))

  module _ {q : Result Form NoForm} (w : q ≡ form_numbered n) {f : Form} (y : q ≡ Ok f) (u : Bool) (g : u ≡ is_header h) where
    pub write-header : not u ≡ true → output (written_as 6 0) o ≡ write n h c d o
    unfolding write
    write-header i = rw (numbered-inside n f (sym w ∙ y), ← g, i)

    module _ (i : not u ≡ false) where
      e : form_numbered n ≡ Ok f
      e = sym w ∙ y

      write-at : write n h c d o ≡ (if not (is_plain c && all is_plain d) then unwritten 16 o else put n (header_capitals h) (block c d true ∷ []) o)
      unfolding write
      write-at = rw (numbered-inside n f e, ← g, i)

      pub write-command : c < 5 → output (written_as 16 0) o ≡ write n h c d o
      write-command k = rw (write-at, not_plain c k)

      -- the data, tested and added up
      module _ (k : 5 ≤ c) (a : ℕ) (v : Result ℕ ℕ) (m : v ≡ added_up a d) where
        pub write-data : (j : ℕ) → v ≡ Err j → output (written_as 16 0) o ≡ write n h c d o
        write-data j l = rw (write-at, plain c k, added-none d a j (sym m ∙ l))

        module _ {j : ℕ} (l : v ≡ Ok j) where
          tested : all is_plain d ≡ true
          tested = (added-some d a j (sym m ∙ l)).0

          pub write-writable : Writable h c d
          write-writable = record { header = sym g ∙ not-false u i; command = plain c k; text = tested }

          pub write-sum : a ≡ opening c → (r : ℕ) → r ≡ (j + ETX) % 65536 → r ≡ checksum c d
          write-sum p r z = sum-added c d a j r p (sym m ∙ l) z

          pub write-good : (z : Output) (x : Single) → z ≡ put (form_number f) (header_capitals h) (block_of x) o → x.command ≡ c → x.text.now ≡ d → z ≡ write n h c d o
          unfolding block_of
          write-good z x b p r = b ∙ rw (p, r, numbered-some n f e, write-at, plain c k, tested)

pub ruleset writing = (write-form, write-header, write-command, write-data, write-writable, write-sum, write-good, rules)
