-- How long a form is, by its header's length, the number of its blocks, the bytes of their data and the escapes in them.
use mathlib.Core.Path.{◌≡◌, refl, ap, ◌∙◌}
use mathlib.Core.Bool.{Bool, true, false, not}
use mathlib.Core.List.{List, [], ◌∷◌, ◌++◌}
use Prim.Native.Nat.{ℕ, suc, ◌+◌, ◌*◌, ◌/◌, ◌%◌, ◌<◌, ◌≤◌}
use native.Mathlib.Nat.{not-suc-le-zero}
use native.Mathlib.Omega.{arith}
use borrow.Author.Tests.{eqb-true, ne_eqb}
use lib.ListN.{length, length-append}
use Rattle.octets.specs.Choice.{◌is◌, all}
use Rattle.octets.specs.InnerCounts.{count}
use Rattle.octets.specs.Hex.{in_hex4}
use Rattle.octets.specs.Buffer.{zeros}
use Rattle.octets.specs.Bytes.{SOH, STX, ETX, is_plain}
use Rattle.octets.proofs.Counts.{count-more, count-append}
use Rattle.octets.proofs.Tests.{by-test}
use Rattle.octets.proofs.Lists.{all_head, all_tail, all_cons, all_more}
use Rattle.header.specs.Header.{is_header}
use Rattle.header.specs.Capitals.{header_capitals}
use Rattle.header.proofs.Texts.{is_text, header-text}
use Rattle.header.proofs.CapitalsLaws.{header-same}
use Rattle.body.specs.Sum.{checksum}
use Rattle.body.specs.Body.{Block}
use Rattle.body.specs.InnerSurveying.{text_bytes}
use Rattle.body.proofs.Plain.{Plain, checksum-small}
use Rattle.forms.specs.Forms.{is_itself, escape, nuls, plain_rest, plain_body, summed_body, body_in, form_of, render}
use Rattle.forms.specs.InnerLengths.{is_escaped, escapes, block_escapes, form_length, render_length}
use Rattle.forms.proofs.PieceLaws.{digit-itself}
use Rattle.forms.proofs.Escapes.{text-itself}

-- ---- blocks behind others

-- the bytes of their data
pub text-append : (bs cs : List Block) → text_bytes (bs ++ cs) ≡ text_bytes bs + text_bytes cs
unfolding text_bytes
text-append [] cs = omega arith
text-append (b ∷ bs) cs = omega (arith, text-append bs cs)

-- and the escapes in them
pub escapes-append : (bs cs : List Block) → block_escapes (bs ++ cs) ≡ block_escapes bs + block_escapes cs
unfolding block_escapes
escapes-append [] cs = omega arith
escapes-append (b ∷ bs) cs = omega (arith, escapes-append bs cs)

-- ---- how many bytes a form stands for

-- blocks of the plain form, each with ETX before it, and EOT
plain-long : (bs : List Block) → length (plain_rest bs) ≡ 1 + 3 * length bs + text_bytes bs
unfolding plain_rest text_bytes
plain-long [] = refl
plain-long (b ∷ bs) = simp length-append (omega (arith, plain-long bs))

-- the same without ETX before the first
first-long : (bs : List Block) → 1 ≤ length bs → length (plain_body bs) ≡ 3 * length bs + text_bytes bs
unfolding plain_body text_bytes
first-long [] h = absurd (not-suc-le-zero h)
first-long (b ∷ bs) h = simp length-append (omega (arith, plain-long bs))

-- blocks with ETX and their sums, and EOT
summed-long : (bs : List Block) → length (summed_body bs) ≡ 1 + 7 * length bs + text_bytes bs
unfolding summed_body text_bytes in_hex4
summed-long [] = refl
summed-long (b ∷ bs) = simp length-append (omega (arith, summed-long bs))

-- a form of 1 block or more stands for as many bytes as its parts say
pub form-length : (form : ℕ) (h : List ℕ) (bs : List Block) → 1 ≤ length bs → length (form_of form h bs) ≡ form_length form (length h) (length bs) (text_bytes bs)
unfolding form_of nuls zeros body_in form_length
form-length form h bs p =
    by-test (form is 1)
    (λ e.
    let n : form is 3 ≡ false = ne_eqb form 3 (λ z. omega (arith, eqb-true form 1 e)) in
    rw (e, n) (omega (arith, length-append h (plain_body bs), first-long bs p)))
    (λ e.
    by-test (form is 3) (λ t. rw (e, t) (omega (arith, length-append h (summed_body bs), summed-long bs)))
    (λ t. rw (e, t) (omega (arith, length-append h (summed_body bs), summed-long bs))))

-- ---- the bytes that an escape stands for

-- a byte that does not stand for itself
unfoldable is_other : ℕ → Bool
is_other x = not (is_itself x)

-- how many of a list do not
abbrev others : List ℕ → ℕ
others l = count is_other l

-- each takes two bytes more
escape-long : (l : List ℕ) → length (escape l) ≡ length l + 2 * others l
unfolding escape count is_other
escape-long [] = refl
escape-long (x ∷ l) =
    by-test (is_itself x) (λ e. rw e (omega (arith, escape-long l))) (λ e. rw e (omega (arith, escape-long l)))

-- one list behind the other
others-append : (l m : List ℕ) → others (l ++ m) ≡ others l + others m
others-append l m = count-append is_other l m

-- a byte in front that is one
others-more : (x : ℕ) (l : List ℕ) → is_itself x ≡ false → others (x ∷ l) ≡ suc (others l)
unfolding is_other
others-more x l e = count-more is_other x l (rw e)

-- there are none where every byte stands for itself
others-itself : (l : List ℕ) → all is_itself l ≡ true → others l ≡ 0
unfolding count is_other
others-itself [] a = refl
others-itself (x ∷ l) a = rw (all_head is_itself x l a) (others-itself l (all_tail is_itself x l a))

-- in plain bytes they are the escapes
others-plain : (l : List ℕ) → all is_plain l ≡ true → others l ≡ escapes l
unfolding count is_other is_escaped
others-plain [] a = refl
others-plain (x ∷ l) a =
    let h = others-plain l (all_tail is_plain x l a) in
    by-test (is_itself x) (λ e. rw (all_head is_plain x l a, e) h) (λ e. rw (all_head is_plain x l a, e) (ap suc h))

-- the digits of a sum have none
others-sum : (v : ℕ) → v < 65536 → others (in_hex4 v) ≡ 0
unfolding count is_other in_hex4
others-sum v h =
    rw (
      digit-itself (v / 4096) (omega arith),
      digit-itself (v / 256 % 16) (omega arith),
      digit-itself (v / 16 % 16) (omega arith),
      digit-itself (v % 16) (omega arith),
    )

-- a block from STX on, its sum k and what is behind it
others-opened : (c : ℕ) (d k r : List ℕ) → others (STX ∷ c ∷ d ++ (ETX ∷ k ++ r)) ≡ 2 + others (c ∷ d) + others k + others r
unfolding is_itself
others-opened c d k r =
    omega (
      arith,
      others-more STX ((c ∷ d) ++ (ETX ∷ k ++ r)) refl,
      others-append (c ∷ d) (ETX ∷ k ++ r),
      others-more ETX (k ++ r) refl,
      others-append k r,
    )

-- those of a body: EOT, STX and ETX of each block, and the escapes in it
others-body : (bs : List Block) → Plain bs → others (summed_body bs) ≡ 1 + 2 * length bs + block_escapes bs
unfolding count is_other summed_body block_escapes is_itself
others-body [] p = refl
others-body (b ∷ bs) p =
    let c = b.command in
    let d = b.text in
    let v = checksum c d in
    omega (
      arith,
      others-opened c d (in_hex4 v) (summed_body bs),
      others-plain (c ∷ d) (all_cons is_plain c d p.0.leading p.0.following),
      others-sum v (checksum-small c d),
      others-body bs p.1,
    )

-- and of form 3: SOH too
others-form : (h : List ℕ) (bs : List Block) → all is_itself h ≡ true → Plain bs → others (form_of 3 h bs) ≡ 2 + 2 * length bs + block_escapes bs
unfolding form_of nuls body_in is_itself
others-form h bs a p =
    omega (arith, others-more SOH (h ++ summed_body bs) refl, others-append h (summed_body bs), others-itself h a, others-body bs p)

-- a result is as long as its form's bytes and the escapes among them say
pub render-length : (form : ℕ) (h : List ℕ) (bs : List Block) → 1 ≤ length bs → all is_itself h ≡ true → Plain bs
    → length (render form h bs) ≡ render_length form (length (form_of form h bs)) (length bs) (block_escapes bs)
unfolding render render_length
render-length form h bs s a p =
    by-test (form is 3) (λ e. rw (eqb-true form 3 e) (omega (arith, escape-long (form_of 3 h bs), others-form h bs a p))) (λ e. rw e)

-- a good header in capitals is made of bytes that stand for themselves
pub header-itself : (h : List ℕ) → is_header h ≡ true → all is_itself (header_capitals h) ≡ true
header-itself h e = all_more is_text is_itself text-itself (header_capitals h) (header-text (header_capitals h) (header-same h ∙ e))
