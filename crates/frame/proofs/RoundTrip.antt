-- What is written in any form reads back.
use mathlib.Core.Path.{◌≡◌, refl, sym, ap, ap₂, ◌∙◌}
use mathlib.Core.Bool.{Bool, true, false, ◌||◌}
use mathlib.Core.List.{List, [], ◌∷◌, ◌++◌, map}
use Prim.Native.Nat.{ℕ, ◌≤◌}
use native.Mathlib.Omega.{arith}
use native.Mathlib.Nat.{not-suc-le-zero}
use lib.ListN.{length}
use borrow.Author.Tests.{le-ltb, ne_eqb}
use Rattle.octets.specs.Choice.{◌is◌, is_byte, ◌!◌, front, behind, all}
use Rattle.octets.specs.Buffer.{zeros}
use Rattle.octets.specs.Bytes.{SOH, STX, ESCAPE, BLOCKS, is_nul}
use Rattle.octets.proofs.Tests.{choice, split}
use Rattle.octets.proofs.Lists.{all_head, all_more, front-stop, behind-stop}
use Rattle.header.specs.Header.{is_header}
use Rattle.header.proofs.Texts.{is_text, text-low, header-text, header-some}
use Rattle.body.specs.Body.{Block, block, body, blocks, is_read, read_not_last, all_right}
use Rattle.body.proofs.Plain.{righted}
use Rattle.reading.specs.Lead.{led, is_soh, nul_lead, soh_lead, lead_of}
use Rattle.reading.specs.Reading.{frame, not_stx, read_body, read_header, read_led, read_translated, read_printable, read_standard, read}
use Rattle.reading.proofs.FrameLaws.{FrameOf}
use Rattle.forms.specs.Forms.{plain_body, summed_body, nuls, body_in, form_of, escape, render}
use Rattle.forms.proofs.PieceLaws.{escape-length}
use Rattle.frame.proofs.Printing.{back-printable, escape-lead}
use Rattle.frame.proofs.BodyBack.{back-body}
use Rattle.frame.proofs.FormBytes.{form-bytes}

-- ---- header and body

text-not-stx : (x : ℕ) → is_text x ≡ true → not_stx x ≡ true
unfolding not_stx
text-not-stx x e = rw (ne_eqb x STX (λ q. omega (arith, text-low x e)))

-- a good header text, and a body behind it
read-led : (h l : List ℕ) (bs : List Block) → is_header h ≡ true → l ! 0 ≡ STX → blocks BLOCKS l ≡ body bs → read_not_last false bs ≡ false
    → read_led (led (h ++ l)) ≡ frame h bs
unfolding read_led read_header read_body not_stx
read-led h [] bs e t b n = absurd (omega arith)
read-led h (x ∷ l) bs e t b n =
    let a : all not_stx h ≡ true = all_more is_text not_stx text-not-stx h (header-text h e) in
    let s : not_stx x ≡ false = rw t in
    rw (front-stop not_stx h x l a s, behind-stop not_stx h x l a s) (rw (e, b) (rw n))

body-stx : (k : ℕ) (bs : List Block) → 1 ≤ length bs → body_in k bs ! 0 ≡ STX
unfolding body_in plain_body summed_body
body-stx k [] a = absurd (not-suc-le-zero a)
body-stx k (b ∷ bs) a = choice (λ (l : List ℕ). l ! 0 ≡ STX) (k is 1) (λ e. refl) (λ e. refl)

-- ---- the two leads

read-standard : (l : List ℕ) → length (zeros 5 ++ (SOH ∷ l)) ≤ 8192 → read (zeros 5 ++ (SOH ∷ l)) ≡ read_led (led l)
unfolding read read_standard lead_of nul_lead zeros front behind is_nul
read-standard l z = rw (le-ltb 8192 (length (zeros 5 ++ (SOH ∷ l))) z)

read-escape : (s : List ℕ) → s ! 0 ≡ ESCAPE → read s ≡ read_printable s
unfolding read
read-escape [] e = absurd (omega arith)
read-escape (x ∷ s) e = rw e

led-one : (l : List ℕ) → is_text (l ! 0) ≡ true → lead_of true (SOH ∷ l) ≡ led l
unfolding lead_of soh_lead front behind is_soh
led-one [] t = refl
led-one (x ∷ l) t = rw (ne_eqb x SOH (λ q. omega (arith, text-low x t)))

read-printable : (l : List ℕ) → is_text (l ! 0) ≡ true → all is_byte (SOH ∷ l) ≡ true → length (SOH ∷ l) ≤ 8192
    → read (escape (SOH ∷ l)) ≡ read_led (led l)
unfolding read_printable read_translated
read-printable l t a z =
    let s : List ℕ = SOH ∷ l in
    read-escape (escape s) (rw (escape-lead l))
    ∙ rw (le-ltb 24576 (length (escape s)) (omega (arith, escape-length s)), back-printable s a, le-ltb 8192 (length s) z, led-one l t)

header-first : (h l : List ℕ) → is_header h ≡ true → is_text ((h ++ l) ! 0) ≡ true
header-first [] l e = absurd (header-some e)
header-first (x ∷ h) l e = all_head is_text x h (header-text (x ∷ h) e)

-- ---- the forms

-- where reads stand does not depend on sums
pub reads-righted : (t : Bool) (bs : List Block) → read_not_last t (map righted bs) ≡ read_not_last t bs
unfolding read_not_last
reads-righted t [] = refl
reads-righted t (b ∷ bs) = ap (λ r. t || r) (reads-righted (is_read b.command) bs)

-- blocks with right sums are what they read as
pub righted-right : (bs : List Block) → all_right bs ≡ true → map righted bs ≡ bs
unfolding all_right
righted-right [] e = refl
righted-right (b ∷ bs) e =
    let p = split b.right e in
    ap₂ (λ r t. block b.command b.text r ∷ t) (sym p.0) (righted-right bs p.1)

module _ (k : ℕ) (h : List ℕ) (bs : List Block) (f : FrameOf is_byte h bs) (z : length (form_of k h bs) ≤ 8192) where
  back-led : read_led (led (h ++ body_in k bs)) ≡ frame h (map righted bs)
  back-led =
      let some = f.blocks.some in
      read-led h (body_in k bs) (map righted bs) f.header (body-stx k bs some)
      (back-body k bs f.blocks.plain some f.blocks.few) (reads-righted false bs ∙ f.reads)

  back-standard : k is 3 ≡ false → read (form_of k h bs) ≡ frame h (map righted bs)
  unfolding form_of nuls
  back-standard e = rw e (read-standard (h ++ body_in k bs) (rw e at z) ∙ back-led)

  back-escaped : k is 3 ≡ true → read (escape (form_of k h bs)) ≡ frame h (map righted bs)
  unfolding form_of nuls
  back-escaped e =
      let a : all is_byte (SOH ∷ h ++ body_in k bs) ≡ true = rw e at (form-bytes k h bs f.header f.blocks.passing) in
      rw e (read-printable (h ++ body_in k bs) (header-first h (body_in k bs) f.header) a (rw e at z) ∙ back-led)

  -- a form reads as the header and blocks that it was made of, the sums right
  pub round_trip : read (render k h bs) ≡ frame h (map righted bs)
  unfolding render
  round_trip = choice (λ s. read s ≡ frame h (map righted bs)) (k is 3) back-escaped back-standard
