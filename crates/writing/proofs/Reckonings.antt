-- What one walk over the blocks of a frame tells of the result, for the reckoning of its length.
use mathlib.Core.Path.{◌≡◌, refl, sym, ap, ◌∙◌}
use mathlib.Core.Bool.{true, ◌||◌}
use mathlib.Core.List.{List, [], ◌∷◌, ◌++◌}
use Prim.Native.Nat.{ℕ, ◌+◌, ◌-◌, ◌≤◌}
use mir.Syntax.{w64}
use mir.Val.{Fits}
use native.Mathlib.Omega.{arith}
use borrow.Author.Rules.{rules}
use borrow.Author.Tests.{ne_eqb}
use lib.ListN.{length, drop, length-take, length-drop, length-append}
use Rattle.std.specs.Prelude.{Ok}
use Rattle.octets.specs.Choice.{◌is◌, ◌isn't◌, ◌!◌, all, part}
use Rattle.octets.specs.Bytes.{STX, ETX, EOT, BLOCKS}
use Rattle.octets.proofs.Counts.{count-few}
use Rattle.octets.proofs.Tests.{choice, by-test, never}
use Rattle.header.specs.Capitals.{header_capitals}
use Rattle.header.proofs.CapitalsLaws.{header-long}
use Rattle.body.specs.Body.{Block, Body, bad_body, body, blocks, has_read, all_right}
use Rattle.body.specs.InnerSurveying.{surveyed, survey_in, text_bytes}
use Rattle.body.specs.InnerTaking.{behind_data, taken_at}
use Rattle.body.specs.Steps.{is_body, blocks_in, body_at, blocks_at}
use Rattle.body.proofs.Plain.{Plain}
use Rattle.body.proofs.WellFormed.{anything, Blocks}
use Rattle.body.proofs.SurveyingLaws.{survey-count, survey-right, survey-read, survey-bytes}
use Rattle.body.proofs.TakingLaws.{Stand, stand-at}
use Rattle.reading.specs.declared.reading.Parts.{Parts}
use Rattle.forms.specs.Forms.{is_itself}
use Rattle.forms.specs.InnerLengths.{is_escaped, escapes}
use Rattle.forms.proofs.FormNumbers.{kinds}
use Rattle.forms.proofs.Escapes.{escapes-body}
use Rattle.forms.proofs.FormLengths.{header-itself, text-append, escapes-append}
use Rattle.writing.specs.InnerSources.{Parted, Reckoned, escapes_in, fitted, answered}
use Rattle.writing.specs.InnerFrames.{text_of, blocks_of}
use Rattle.writing.specs.declared.source.Source.{Source}
use Rattle.writing.specs.declared.Written.{Written}
use Rattle.writing.proofs.Results.{blocks-good, fitted-by}

-- ---- what a survey says of the blocks

good-body : (x : Body) → is_body x ≡ true → x ≡ body (blocks_in x)
unfolding is_body blocks_in
good-body bad_body e = never (sym e)
good-body (body bs) e = refl

-- the data of blocks that stand one behind the other are no more than the bytes from there on
behind-end : (s : List ℕ) (to : ℕ) → to ≤ behind_data s to
unfolding behind_data
behind-end s to =
    choice (λ n. to ≤ n) (s ! to isn't ETX) (λ e. omega arith)
    (λ e. choice (λ n. to ≤ n) (s ! (to + 1) is STX || s ! (to + 1) is EOT) (λ f. omega arith) (λ f. omega arith))

next-end : (s : List ℕ) (at : ℕ) → (taken_at s at).to ≤ (taken_at s at).next
unfolding taken_at
next-end s at = behind-end s _

stand-bytes : (s : List ℕ) (at : ℕ) (bs : List Block) → Stand s at bs → text_bytes bs ≤ length s - at
unfolding text_bytes
stand-bytes s at [] w = omega arith
stand-bytes s at (b ∷ bs) w =
    let n = w.0 in
    let k : length (part (at + 2) (taken_at s at).to s) ≤ (taken_at s at).to - (at + 2) = simp (length-take, length-drop) (omega arith) in
    let l : length b.text ≤ (taken_at s at).to - (at + 2) = rw n.text at k in
    omega (arith, n.ordered, n.inside, next-end s at, stand-bytes s (taken_at s at).next bs w.1)

module _ {s : List ℕ} {p : Parts} (g : Parted s p) where
  told : surveyed (body (blocks_at s p.body)) ≡ Ok p.seen
  unfolding body_at blocks_at
  told = ap surveyed (sym (good-body (blocks BLOCKS (drop p.body s)) g.good)) ∙ g.seen

  seen-known : p.seen ≡ survey_in (surveyed (body (blocks_at s p.body)))
  unfolding survey_in
  seen-known = rw told

  pub seen-count : p.seen.count ≡ length (blocks_at s p.body)
  seen-count = ap (λ x. x.count) seen-known ∙ survey-count (blocks_at s p.body)

  pub seen-right : p.seen.right ≡ all_right (blocks_at s p.body)
  seen-right = ap (λ x. x.right) seen-known ∙ survey-right (blocks_at s p.body)

  pub seen_read : p.seen.read ≡ has_read (blocks_at s p.body)
  seen_read = ap (λ x. x.read) seen-known ∙ survey-read (blocks_at s p.body)

  seen_bytes : p.seen.bytes ≡ text_bytes (blocks_at s p.body)
  seen_bytes = ap (λ x. x.bytes) seen-known ∙ survey-bytes (blocks_at s p.body)

  blocks-few : p.seen.count ≤ 64
  blocks-few = omega (arith, seen-count, (blocks-good s p.body g.good).few)

  bytes-few : p.seen.bytes ≤ 8192
  bytes-few = omega (arith, seen_bytes, stand-bytes s p.body (blocks_at s p.body) (stand-at s p.body g.good), g.short)

  escapes-in : (form : ℕ) → escapes_in form (blocks_at s p.body) ≤ 8192
  unfolding escapes_in
  escapes-in form =
      choice (λ n. n ≤ 8192) (form is 3)
      (λ e. omega (arith, escapes-body s p.body g.good, count-few is_escaped (drop p.body s), length-drop p.body s, g.short))
      (λ e. omega arith)

-- ---- the escapes of a good body

pub escapes-other : (form : ℕ) (bs : List Block) → (form ≡ 3 → ⊥) → 0 ≡ escapes_in form bs
unfolding escapes_in
escapes-other form bs n = rw (ne_eqb form 3 n)

module _ (x : Source) (l : List ℕ) (d : l ≡ drop x.parts.body x.bytes.now) where
  pub escapes-short : length l ≤ 8192
  escapes-short = rw d (simp length-drop (omega (arith, x.parted.short)))

  pub escapes-all : (form : ℕ) → form ≡ 3 → (n : ℕ) → n ≡ escapes l → n ≡ escapes_in form (blocks_of x)
  unfolding escapes_in blocks_of
  escapes-all form t n e = rw t (e ∙ ap escapes d ∙ escapes-body x.bytes.now x.parts.body x.parted.good)

pub ruleset escaping = (kinds, escapes-other, escapes-short, escapes-all, rules)

-- ---- one frame in a form

module _ (x : Source) where
  source : Parted x.bytes.now x.parts
  source = x.parted

  text-long : length (text_of x) ≤ 8192
  unfolding text_of
  text-long = simp (length-take, length-drop) (omega (arith, source.inside, source.short))

  some-itself : all is_itself (header_capitals (text_of x)) ≡ true
  unfolding text_of
  some-itself = header-itself (text_of x) x.parted.headed

  source-good : Blocks anything 64 (blocks_of x)
  unfolding blocks_of
  source-good = blocks-good x.bytes.now x.parts.body source.good

  pub source-count : x.parts.seen.count ≡ length (blocks_of x)
  unfolding blocks_of
  source-count = seen-count source

  pub source-read : x.parts.seen.read ≡ has_read (blocks_of x)
  unfolding blocks_of
  source-read = seen_read source

  source-bytes : x.parts.seen.bytes ≡ text_bytes (blocks_of x)
  unfolding blocks_of
  source-bytes = seen_bytes source

  source-escapes : (form : ℕ) → escapes_in form (blocks_of x) ≤ 8192
  unfolding blocks_of
  source-escapes form = escapes-in source form

  module _ (h : List ℕ) (a : h ≡ text_of x) where
    header-length : length h ≡ length (header_capitals (text_of x))
    header-length = ap (λ (l : List ℕ). length l) a ∙ sym (header-long (text_of x))

    module _ (form : ℕ) (e : ℕ) (f : e ≡ escapes_in form (blocks_of x)) where
      pub source-reckoned : Reckoned (length h) x.parts.seen.count x.parts.seen.bytes e
      source-reckoned =
          record {
            header = rw a (omega (arith, text-long));
            count = omega (arith, blocks-few source);
            text = omega (arith, bytes-few source);
            escapes = omega (arith, source-escapes form);
          }

      pub source-fitted : (room : ℕ) (r : Written) → r ≡ fitted form (length h) x.parts.seen.count x.parts.seen.bytes e room
          → r ≡ answered form (header_capitals (text_of x)) (blocks_of x) room
      source-fitted room r q =
          fitted-by form (header_capitals (text_of x)) (blocks_of x) source-good.some some-itself source-good.plain
          (length h) x.parts.seen.count x.parts.seen.bytes e header-length source-count source-bytes f room r q

pub ruleset reckoning = (source-reckoned, source-fitted, rules)

-- ---- two frames in a form

plain-append : (bs cs : List Block) → Plain bs → Plain cs → Plain (bs ++ cs)
plain-append [] cs p q = q
plain-append (b ∷ bs) cs p q = (p.0, plain-append bs cs p.1 q)

escapes-both : (form : ℕ) (bs cs : List Block) → escapes_in form bs + escapes_in form cs ≡ escapes_in form (bs ++ cs)
unfolding escapes_in
escapes-both form bs cs = by-test (form is 3) (λ e. rw e (sym (escapes-append bs cs))) (λ e. rw e)

module _ (x y : Source) where
  pub both-count : Fits w64 (x.parts.seen.count + y.parts.seen.count)
  both-count = omega (arith, blocks-few (source x), blocks-few (source y))

  pub both_bytes : Fits w64 (x.parts.seen.bytes + y.parts.seen.bytes)
  both_bytes = omega (arith, bytes-few (source x), bytes-few (source y))

  module _ (form : ℕ) (d e : ℕ) (a : d ≡ escapes_in form (blocks_of x)) (b : e ≡ escapes_in form (blocks_of y)) where
    pub both-escapes : Fits w64 (d + e)
    both-escapes = omega (arith, source-escapes x form, source-escapes y form)

    module _ (h : List ℕ) (f : h ≡ text_of x) where
      pub both-reckoned : Reckoned (length h) (x.parts.seen.count + y.parts.seen.count) (x.parts.seen.bytes + y.parts.seen.bytes) (d + e)
      both-reckoned =
          record {
            header = rw f (omega (arith, text-long x));
            count = omega (arith, blocks-few (source x), blocks-few (source y));
            text = omega (arith, bytes-few (source x), bytes-few (source y));
            escapes = omega (arith, source-escapes x form, source-escapes y form);
          }

      pub both-fitted : (room : ℕ) (r : Written) → r ≡ fitted form (length h) (x.parts.seen.count + y.parts.seen.count) (x.parts.seen.bytes + y.parts.seen.bytes) (d + e) room
          → r ≡ answered form (header_capitals (text_of x)) (blocks_of x ++ blocks_of y) room
      both-fitted room r q =
          let bs = blocks_of x in
          let cs = blocks_of y in
          fitted-by form (header_capitals (text_of x)) (bs ++ cs)
          (rw length-append (omega (arith, (source-good x).some))) (some-itself x) (plain-append bs cs (source-good x).plain (source-good y).plain)
          (length h) (x.parts.seen.count + y.parts.seen.count) (x.parts.seen.bytes + y.parts.seen.bytes) (d + e)
          (header-length x h f) (omega (arith, source-count x, source-count y, length-append bs cs))
          (omega (arith, source-bytes x, source-bytes y, text-append bs cs)) (omega (arith, a, b, escapes-both form bs cs)) room r q

pub ruleset pairing = (both-count, both_bytes, both-escapes, both-reckoned, both-fitted, rules)
