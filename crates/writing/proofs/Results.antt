-- What the calls put as a whole is the form; its number, its length, and what the output buffer is left with.
use mathlib.Core.Path.{◌≡◌, refl, sym, ap, ap₂, ◌∙◌}
use mathlib.Core.Bool.{true, false, ◌||◌}
use mathlib.Core.List.{List, [], ◌∷◌, ◌++◌, append-nil, append_assoc}
use Prim.Native.Nat.{ℕ, ◌+◌, ◌≤◌}
use native.Mathlib.Nat.{zero-add}
use native.Mathlib.Omega.{arith}
use borrow.Author.Rules.{rules}
use borrow.Author.Tests.{eqb-true, ltb-false}
use lib.Dec.{lit≤}
use lib.ListN.{length, drop, length-append}
use lib.Seq.{sets-eq}
use Rattle.std.specs.Prelude.{Result, Ok, Err}
use Rattle.octets.specs.Choice.{◌is◌, ◌<?◌, all}
use Rattle.octets.specs.Buffer.{overlay}
use Rattle.octets.specs.Bytes.{EOT, BLOCKS, TRANSLATED}
use Rattle.octets.proofs.Tests.{by-test, never}
use Rattle.header.specs.Capitals.{header_capitals}
use Rattle.body.specs.Body.{Block, Body, bad_body, body, blocks}
use Rattle.body.specs.InnerSurveying.{text_bytes}
use Rattle.body.specs.Steps.{is_body, blocks_in, body_at, blocks_at}
use Rattle.body.proofs.Plain.{Plain}
use Rattle.body.proofs.WellFormed.{anything, all-anything, Blocks, BodyOf, blocks-of}
use Rattle.forms.specs.Forms.{is_itself, form_of, render}
use Rattle.forms.specs.InnerLengths.{block_escapes, render_length}
use Rattle.forms.specs.InnerPieces.{Takes, Puts, encode, piece, pieces, heading, headed}
use Rattle.forms.proofs.FormLengths.{form-length, render-length}
use Rattle.forms.proofs.PieceLaws.{pieces-append, render-headed}
use Rattle.forms.proofs.FormsLaws.{puts-as, joined, takes_front, takes-behind}
use Rattle.writing.specs.Output.{is_over, output, written_as, put_number, put}
use Rattle.writing.specs.InnerSources.{escapes_in, fitted, answered}
use Rattle.writing.specs.InnerRefusals.{number_of, told}
use Rattle.writing.specs.InnerFrames.{text_of, blocks_of, block_of}
use Rattle.writing.specs.declared.Written.{Written}
use Rattle.writing.specs.declared.refusal.Refusal.{Refusal}
use Rattle.writing.specs.declared.single.Single.{Single}
use Rattle.writing.specs.declared.source.Source.{Source}

-- ---- the blocks of a good body

good-blocks : (n : ℕ) (x : Body) → is_body x ≡ true → BodyOf anything n x → Blocks anything n (blocks_in x)
unfolding is_body blocks_in
good-blocks n bad_body e g = never (sym e)
good-blocks n (body bs) e g = g

-- there are 1 to 64, of plain bytes
pub blocks-good : (s : List ℕ) (from : ℕ) → body_at s from ≡ true → Blocks anything 64 (blocks_at s from)
unfolding body_at blocks_at
blocks-good s from g = good-blocks 64 (blocks 64 (drop from s)) g (blocks-of anything 64 (drop from s) (all-anything (drop from s)))

-- ---- the header, and the blocks behind it

headed-as : (form : ℕ) (h : List ℕ) (bs : List Block) → headed form h bs ≡ heading form h ++ pieces form true bs
unfolding headed
headed-as form h bs = refl

module _ {o : List ℕ} (form : ℕ) (x : Source) (h : List ℕ) (a : h ≡ text_of x) where
  pub headed-front : Takes o 0 (encode form (headed form (header_capitals (text_of x)) (blocks_of x))) → Takes o 0 (encode form (heading form (header_capitals h)))
  headed-front t = rw a (takes_front form (heading form (header_capitals (text_of x))) (pieces form true (blocks_of x)) (rw (headed-as form (header_capitals (text_of x)) (blocks_of x)) at t))

  module _ {o₁ : List ℕ} {n : ℕ} (p : Puts o 0 (encode form (heading form (header_capitals h))) o₁ n) where
    same_put : Puts o 0 (encode form (heading form (header_capitals (text_of x)))) o₁ n
    same_put = rw (← a) p

    pub headed-behind : Takes o 0 (encode form (headed form (header_capitals (text_of x)) (blocks_of x))) → Takes o₁ n (encode form (pieces form true (blocks_of x)))
    headed-behind t = takes-behind form (heading form (header_capitals (text_of x))) (pieces form true (blocks_of x)) (rw (headed-as form (header_capitals (text_of x)) (blocks_of x)) at t) same_put

    pub headed-put : {o₂ : List ℕ} {k : ℕ} → Puts o₁ n (encode form (pieces form true (blocks_of x))) o₂ k
        → Puts o 0 (encode form (headed form (header_capitals (text_of x)) (blocks_of x))) o₂ k
    headed-put q = rw (headed-as form (header_capitals (text_of x)) (blocks_of x)) (joined form (heading form (header_capitals (text_of x))) (pieces form true (blocks_of x)) same_put q)

pub ruleset heads = (headed-front, headed-behind, headed-put, rules)

-- ---- a whole form

module _ {o : List ℕ} (form : ℕ) (h : List ℕ) (bs : List Block) (e : 1 ≤ length bs) where
  ended-front : Takes o 0 (render form h bs) → Takes o 0 (encode form (headed form h bs))
  ended-front t = takes_front form (headed form h bs) (EOT ∷ []) (rw (render-headed form h bs e) at t)

  module _ {o₁ : List ℕ} {a : ℕ} (p : Puts o 0 (encode form (headed form h bs)) o₁ a) where
    ended-behind : Takes o 0 (render form h bs) → Takes o₁ a (encode form (EOT ∷ []))
    ended-behind t = takes-behind form (headed form h bs) (EOT ∷ []) (rw (render-headed form h bs e) at t) p

    ended-put : {o₂ : List ℕ} {n : ℕ} → Puts o₁ a (encode form (EOT ∷ [])) o₂ n → Puts o 0 (render form h bs) o₂ n
    ended-put q = puts-as (render-headed form h bs e) (joined form (headed form h bs) (EOT ∷ []) p q)

source-some : (x : Source) → 1 ≤ length (blocks_of x)
unfolding blocks_of
source-some x = (blocks-good x.bytes.now x.parts.body x.parted.good).some

-- of one frame
module _ (form : ℕ) (x : Source) {o : List ℕ} where
  pub reformed-front : Takes o 0 (render form (header_capitals (text_of x)) (blocks_of x)) → Takes o 0 (encode form (headed form (header_capitals (text_of x)) (blocks_of x)))
  reformed-front t = ended-front form (header_capitals (text_of x)) (blocks_of x) (source-some x) t

  module _ {o₁ : List ℕ} {a : ℕ} (p : Puts o 0 (encode form (headed form (header_capitals (text_of x)) (blocks_of x))) o₁ a) where
    pub reformed-behind : Takes o 0 (render form (header_capitals (text_of x)) (blocks_of x)) → Takes o₁ a (encode form (EOT ∷ []))
    reformed-behind t = ended-behind form (header_capitals (text_of x)) (blocks_of x) (source-some x) p t

    pub reformed-put : {o₂ : List ℕ} {n : ℕ} → Puts o₁ a (encode form (EOT ∷ [])) o₂ n → Puts o 0 (render form (header_capitals (text_of x)) (blocks_of x)) o₂ n
    reformed-put q = ended-put form (header_capitals (text_of x)) (blocks_of x) (source-some x) p q

pub ruleset wholes = (reformed-front, reformed-behind, reformed-put, rules)

-- of two
module _ (form : ℕ) (x y : Source) where
  both_some : 1 ≤ length (blocks_of x ++ blocks_of y)
  both_some = rw length-append (omega (arith, source-some x))

  both-as : headed form (header_capitals (text_of x)) (blocks_of x ++ blocks_of y)
      ≡ headed form (header_capitals (text_of x)) (blocks_of x) ++ pieces form false (blocks_of y)
  unfolding headed
  both-as =
      let h : List ℕ = header_capitals (text_of x) in
      ap (λ (l : List ℕ). heading form h ++ l) (pieces-append form true (blocks_of x) (blocks_of y) (source-some x))
      ∙ sym (append_assoc (heading form h) (pieces form true (blocks_of x)) (pieces form false (blocks_of y)))

  module _ {o : List ℕ} where
    both-front : Takes o 0 (render form (header_capitals (text_of x)) (blocks_of x ++ blocks_of y))
        → Takes o 0 (encode form (headed form (header_capitals (text_of x)) (blocks_of x) ++ pieces form false (blocks_of y)))
    both-front w = rw both-as at (ended-front form (header_capitals (text_of x)) (blocks_of x ++ blocks_of y) both_some w)

    pub joined-front : Takes o 0 (render form (header_capitals (text_of x)) (blocks_of x ++ blocks_of y))
        → Takes o 0 (encode form (headed form (header_capitals (text_of x)) (blocks_of x)))
    joined-front w = takes_front form (headed form (header_capitals (text_of x)) (blocks_of x)) (pieces form false (blocks_of y)) (both-front w)

    module _ {o₁ : List ℕ} {a : ℕ} (p : Puts o 0 (encode form (headed form (header_capitals (text_of x)) (blocks_of x))) o₁ a) where
      pub joined-second : Takes o 0 (render form (header_capitals (text_of x)) (blocks_of x ++ blocks_of y)) → Takes o₁ a (encode form (pieces form false (blocks_of y)))
      joined-second w = takes-behind form (headed form (header_capitals (text_of x)) (blocks_of x)) (pieces form false (blocks_of y)) (both-front w) p

      module _ {o₂ : List ℕ} {b : ℕ} (q : Puts o₁ a (encode form (pieces form false (blocks_of y))) o₂ b) where
        both-put : Puts o 0 (encode form (headed form (header_capitals (text_of x)) (blocks_of x ++ blocks_of y))) o₂ b
        both-put = rw both-as (joined form (headed form (header_capitals (text_of x)) (blocks_of x)) (pieces form false (blocks_of y)) p q)

        pub joined-behind : Takes o 0 (render form (header_capitals (text_of x)) (blocks_of x ++ blocks_of y)) → Takes o₂ b (encode form (EOT ∷ []))
        joined-behind w = ended-behind form (header_capitals (text_of x)) (blocks_of x ++ blocks_of y) both_some both-put w

        pub joined-put : {o₃ : List ℕ} {n : ℕ} → Puts o₂ b (encode form (EOT ∷ [])) o₃ n → Puts o 0 (render form (header_capitals (text_of x)) (blocks_of x ++ blocks_of y)) o₃ n
        joined-put r = ended-put form (header_capitals (text_of x)) (blocks_of x ++ blocks_of y) both_some both-put r

pub ruleset pairs = (joined-front, joined-second, joined-behind, joined-put, rules)

-- of one command
module _ (form : ℕ) (x : Single) where
  single-some : 1 ≤ length (block_of x)
  unfolding block_of
  single-some = lit≤ tt

  single-as : headed form (header_capitals x.header.now) (block_of x) ≡ heading form (header_capitals x.header.now) ++ piece form true x.command x.text.now
  unfolding headed pieces block_of
  single-as = rw (append-nil (piece form true x.command x.text.now))

  module _ {o : List ℕ} where
    single-front : Takes o 0 (render form (header_capitals x.header.now) (block_of x))
        → Takes o 0 (encode form (heading form (header_capitals x.header.now) ++ piece form true x.command x.text.now))
    single-front t = rw single-as at (ended-front form (header_capitals x.header.now) (block_of x) single-some t)

    pub written-front : Takes o 0 (render form (header_capitals x.header.now) (block_of x)) → Takes o 0 (encode form (heading form (header_capitals x.header.now)))
    written-front t = takes_front form (heading form (header_capitals x.header.now)) (piece form true x.command x.text.now) (single-front t)

    module _ {o₁ : List ℕ} {a : ℕ} (p : Puts o 0 (encode form (heading form (header_capitals x.header.now))) o₁ a) where
      pub written-piece : Takes o 0 (render form (header_capitals x.header.now) (block_of x)) → Takes o₁ a (encode form (piece form true x.command x.text.now))
      written-piece t = takes-behind form (heading form (header_capitals x.header.now)) (piece form true x.command x.text.now) (single-front t) p

      module _ {o₂ : List ℕ} {b : ℕ} (q : Puts o₁ a (encode form (piece form true x.command x.text.now)) o₂ b) where
        single-put : Puts o 0 (encode form (headed form (header_capitals x.header.now) (block_of x))) o₂ b
        single-put = rw single-as (joined form (heading form (header_capitals x.header.now)) (piece form true x.command x.text.now) p q)

        pub written_behind : Takes o 0 (render form (header_capitals x.header.now) (block_of x)) → Takes o₂ b (encode form (EOT ∷ []))
        written_behind t = ended-behind form (header_capitals x.header.now) (block_of x) single-some single-put t

        pub written-put : {o₃ : List ℕ} {n : ℕ} → Puts o₂ b (encode form (EOT ∷ [])) o₃ n → Puts o 0 (render form (header_capitals x.header.now) (block_of x)) o₃ n
        written-put r = ended-put form (header_capitals x.header.now) (block_of x) single-some single-put r

pub ruleset written = (written-front, written-piece, written_behind, written-put, rules)

-- ---- its number and its length

none_left : (l : List ℕ) → 0 ≡ length l → l ≡ []
none_left [] e = refl
none_left (x ∷ l) e = absurd (omega arith)

module _ (form : ℕ) (h : List ℕ) (bs : List Block) where
  -- what is reckoned is what the definitions say
  raw-length : 1 ≤ length bs → all is_itself h ≡ true → Plain bs
      → render_length form (length (form_of form h bs)) (length bs) (escapes_in form bs) ≡ length (render form h bs)
  raw-length s a p = counts ∙ sym (render-length form h bs s a p)
    where
      counts : render_length form (length (form_of form h bs)) (length bs) (escapes_in form bs)
          ≡ render_length form (length (form_of form h bs)) (length bs) (block_escapes bs)
      counts = unfold render_length escapes_in in by-test (form is 3) (λ e. rw e) (λ e. rw e)

  fitted-as : 1 ≤ length bs → all is_itself h ≡ true → Plain bs → (room : ℕ)
      → fitted form (length h) (length bs) (text_bytes bs) (escapes_in form bs) room ≡ answered form h bs room
  unfolding fitted answered put_number is_over
  fitted-as s a p room =
      rw (← form-length form h bs s, raw-length s a p)
      (by-test (BLOCKS <? length bs || TRANSLATED <? length (form_of form h bs)) (λ e. rw e)
      (λ e. by-test (room <? length (render form h bs)) (λ f. rw (e, f)) (λ f. rw (e, f))))

  pub fitted-by : 1 ≤ length bs → all is_itself h ≡ true → Plain bs
      → (k n t e : ℕ) → k ≡ length h → n ≡ length bs → t ≡ text_bytes bs → e ≡ escapes_in form bs
      → (room : ℕ) (r : Written) → r ≡ fitted form k n t e room → r ≡ answered form h bs room
  fitted-by s a p k n t e b c d f room r q = q ∙ rw (b, c, d, f) (fitted-as s a p room)

  -- what is not refused is within the limits, and has room
  pub put-fits : (room : ℕ) → put_number form h bs room ≡ 0 → (is_over form h bs ≡ false) × (length (render form h bs) ≤ room)
  unfolding put_number
  put-fits room e =
      by-test (is_over form h bs) (λ a. let z : 18 ≡ 0 = rw a at e in absurd (omega arith)) (λ a.
      by-test (room <? length (render form h bs)) (λ b. let z : 14 ≡ 0 = rw (a, b) at e in absurd (omega arith)) (λ b.
      (a, ltb-false room (length (render form h bs)) b)))

  -- with room for it the form starts the buffer; else the buffer is as it was
  module _ (o : List ℕ) (q : Result ℕ Refusal) (e : told q ≡ answered form h bs (length o)) where
    number : (told q).number ≡ put_number form h bs (length o)
    unfolding answered
    number = ap (λ (x : Written). x.number) e ∙ by-test (put_number form h bs (length o) is 0)
        (λ a. rw a (sym (eqb-true (put_number form h bs (length o)) 0 a))) (λ a. rw a)

    pub put_refused : {d : Refusal} → q ≡ Err d → output (written_as (number_of d) 0) o ≡ put form h bs o
    unfolding answered put overlay
    put_refused {d} f =
        let z : written_as (number_of d) 0 ≡ answered form h bs (length o) = rw f at e in
        rw z (by-test (put_number form h bs (length o) is 0)
        (λ a.
        let k : 0 ≡ length (render form h bs) = rw a at (ap (λ (x : Written). x.length) z) in
        rw (a, none_left (render form h bs) k))
        (λ a. rw a))

    module _ {k : ℕ} (t : q ≡ Ok k) where
      none-told : put_number form h bs (length o) ≡ 0
      none-told = rw t at (sym number)

      fits : length (render form h bs) ≤ length o
      fits = (put-fits (length o) none-told).1

      pub put-room : Takes o 0 (render form h bs)
      put-room = record { room = omega (arith, fits) }

      pub put-done : (o₁ : List ℕ) (n : ℕ) → Puts o 0 (render form h bs) o₁ n → output (written_as 0 n) o₁ ≡ put form h bs o
      unfolding put overlay
      put-done o₁ n p =
          let x : List ℕ = render form h bs in
          let m : n ≡ length x = omega (arith, p.moved) in
          let z : 0 + length x ≤ length o = omega (arith, fits) in
          let w : o₁ ≡ x ++ drop (length x) o = p.stored ∙ sets-eq x o 0 z ∙ ap (λ (j : ℕ). x ++ drop j o) (zero-add (length x)) in
          rw none-told (ap₂ (λ (j : ℕ) (l : List ℕ). output (written_as 0 j) l) m w)

pub ruleset delivering = (put_refused, put-room, put-done, rules)
