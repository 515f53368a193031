-- What reads as a frame is one: a good header, 1 to 64 plain blocks, no read before the last; and a refusal has a number from 3 to 8.
use mathlib.Core.Path.{◌≡◌, refl}
use mathlib.Core.Bool.{Bool, true, false, not, ◌||◌}
use mathlib.Core.List.{List, [], ◌∷◌}
use Prim.Native.Nat.{ℕ, zero, suc, ◌+◌, ◌*◌, ◌<◌, ◌≤◌}
use native.Mathlib.Omega.{arith}
use lib.ListN.{length}
use borrow.Author.Tests.{ltb-true, leb-true, lt-ltb, not-false}
use Rattle.octets.specs.Choice.{◌is◌, ◌isn't◌, ◌<?◌, ◌≤?◌, between, is_byte, ◌!◌, none, front, behind, all}
use Rattle.octets.specs.Hex.{value, is_hex, is_hex2, hex2}
use Rattle.octets.specs.Carried.{capitals, is_carried2, carried2}
use Rattle.octets.specs.Bytes.{NUL, SOH, ESCAPE, STANDARD, PRINTABLE, TRANSLATED, BLOCKS, is_nul}
use Rattle.octets.proofs.Tests.{choice, split}
use Rattle.octets.proofs.Lists.{all_cons, all_drop, behind-keeps}
use Rattle.header.specs.Header.{is_header}
use Rattle.body.specs.Body.{Block, Body, bad_body, body, blocks, read_not_last}
use Rattle.body.proofs.WellFormed.{anything, all-anything, Blocks, BodyOf, blocks-of}
use Rattle.reading.specs.Translation.{Translation, untranslated, translated, push, translate_from, translate}
use Rattle.reading.specs.Lead.{Led, misled, led, fewest_nul, fewest_soh, is_soh, nul_lead, soh_lead, lead_of}
use Rattle.reading.specs.Reading.{Reading, refused, frame, not_stx, read_body, read_header, read_led}
use Rattle.reading.specs.Reading.{read_translated, read_printable, read_standard, read}

-- a frame: a good header text, 1 to 64 plain blocks of bytes that pass r, and no read before the last of them
pub record FrameOf (r : ℕ → Bool) (h : List ℕ) (bs : List Block) : Type 0 where
  pub header : is_header h ≡ true
  pub blocks : Blocks r 64 bs
  pub reads : read_not_last false bs ≡ false

-- the number of a refusal
pub record RefusalOf (n : ℕ) : Type 0 where
  pub least : 3 ≤ n
  pub most : n ≤ 8

-- a reading is one or the other
abbrev pub ReadingOf : (ℕ → Bool) → Reading → Type 0
ReadingOf r (refused n) = RefusalOf n
ReadingOf r (frame h bs) = FrameOf r h bs

-- what a printable text stands for passes r
abbrev pub TranslationOf : (ℕ → Bool) → Translation → Type 0
TranslationOf r untranslated = Unit {0}
TranslationOf r (translated t) = all r t ≡ true

-- what stands behind a lead passes r
abbrev pub LedOf : (ℕ → Bool) → Led → Type 0
LedOf r misled = Unit {0}
LedOf r (led l) = all r l ≡ true

refusal : (n : ℕ) → between 3 8 n ≡ true → RefusalOf n
refusal n e = let p = split (3 ≤? n) e in record { least = leb-true 3 n p.0; most = leb-true n 8 p.1 }

-- ---- behind a lead

module _ (r : ℕ → Bool) where
  nul-of : (p : Bool) (t : List ℕ) → all r t ≡ true → LedOf r (nul_lead p t)
  unfolding nul_lead
  nul-of p t a =
      choice (LedOf r) (length (front is_nul t) <? fewest_nul p) (λ x. tt)
      (λ x. choice (LedOf r) (behind is_nul t ! 0 isn't SOH) (λ y. tt) (λ y. all_drop r 1 (behind is_nul t) (behind-keeps is_nul r t a)))

  soh-of : (p : Bool) (t : List ℕ) → all r t ≡ true → LedOf r (soh_lead p t)
  unfolding soh_lead
  soh-of p t a = choice (LedOf r) (length (front is_soh t) <? fewest_soh p) (λ x. tt) (λ x. behind-keeps is_soh r t a)

  -- the bytes behind a lead are bytes that were there
  pub lead-of : (p : Bool) (t : List ℕ) → all r t ≡ true → LedOf r (lead_of p t)
  unfolding lead_of
  lead-of p t a = choice (LedOf r) (t ! 0 is NUL) (λ e. nul-of p t a) (λ e. soh-of p t a)

-- ---- a reading, where every byte that a printable text stands for passes r

module _ (r : ℕ → Bool) (tr : (s : List ℕ) → TranslationOf r (translate s)) where
  body_reads : (h : List ℕ) (x : Body) → is_header h ≡ true → BodyOf r 64 x → ReadingOf r (read_body h x)
  unfolding read_body
  body_reads h bad_body e g = refusal 7 refl
  body_reads h (body bs) e g =
      choice (ReadingOf r) (read_not_last false bs) (λ x. refusal 8 refl) (λ x. record { header = e; blocks = g; reads = x })

  header-reads : (h l : List ℕ) → all r l ≡ true → ReadingOf r (read_header h l)
  unfolding read_header
  header-reads h l a =
      choice (ReadingOf r) (none l) (λ x. refusal 6 refl)
      (λ x. choice (ReadingOf r) (not (is_header h)) (λ y. refusal 6 refl)
      (λ y. body_reads h (blocks BLOCKS l) (not-false (is_header h) y) (blocks-of r 64 l a)))

  led-reads : (x : Led) → LedOf r x → ReadingOf r (read_led x)
  unfolding read_led
  led-reads misled g = refusal 4 refl
  led-reads (led l) g = header-reads (front not_stx l) (behind not_stx l) (behind-keeps not_stx r l g)

  translated-reads : (x : Translation) → TranslationOf r x → ReadingOf r (read_translated x)
  unfolding read_translated
  translated-reads untranslated g = refusal 5 refl
  translated-reads (translated t) g =
      choice (ReadingOf r) (TRANSLATED <? length t) (λ x. refusal 3 refl) (λ x. led-reads (lead_of true t) (lead-of r true t g))

  printable-reads : (s : List ℕ) → ReadingOf r (read_printable s)
  unfolding read_printable
  printable-reads s =
      choice (ReadingOf r) (PRINTABLE <? length s) (λ x. refusal 3 refl) (λ x. translated-reads (translate s) (tr s))

  standard-reads : (s : List ℕ) → all r s ≡ true → ReadingOf r (read_standard s)
  unfolding read_standard
  standard-reads s a =
      choice (ReadingOf r) (STANDARD <? length s) (λ x. refusal 3 refl) (λ x. led-reads (lead_of false s) (lead-of r false s a))

  -- what bytes that pass r read as
  pub read_of : (s : List ℕ) → all r s ≡ true → ReadingOf r (read s)
  unfolding read
  read_of s a =
      choice (ReadingOf r) (none s) (λ x. refusal 3 refl)
      (λ x. choice (ReadingOf r) (s ! 0 is NUL || s ! 0 is SOH) (λ y. standard-reads s a)
      (λ y. choice (ReadingOf r) (s ! 0 is ESCAPE) (λ z. printable-reads s) (λ z. refusal 4 refl)))

-- ---- what a printable text stands for

push-of : (r : ℕ → Bool) (x : ℕ) (t : Translation) → r x ≡ true → TranslationOf r t → TranslationOf r (push x t)
unfolding push
push-of r x untranslated a g = tt
push-of r x (translated t) a g = all_cons r x t a g

escaped-byte : (s : List ℕ) → is_carried2 s ≡ true → is_byte (carried2 s) ≡ true
unfolding is_hex2 hex2 is_byte
escaped-byte s e =
    let l : List ℕ = capitals s in
    let p = split (is_hex (l ! 0)) e in
    let a : value (l ! 0) < 16 = ltb-true (value (l ! 0)) 16 p.0 in
    let b : value (l ! 1) < 16 = ltb-true (value (l ! 1)) 16 p.1 in
    lt-ltb (value (l ! 0) * 16 + value (l ! 1)) 256 (omega arith)

itself-byte : (x : ℕ) → between 0x20 0x7E x ≡ true → is_byte x ≡ true
unfolding is_byte
itself-byte x e = lt-ltb x 256 (omega (arith, leb-true x 0x7E (split (0x20 ≤? x) e).1))

translated-bytes : (k : ℕ) (s : List ℕ) → TranslationOf is_byte (translate_from k s)
unfolding translate_from all
translated-bytes k [] = refl
translated-bytes (suc k) (x ∷ s) = translated-bytes k s
translated-bytes zero (x ∷ s) =
    choice (TranslationOf is_byte) (x is ESCAPE)
    (λ e. choice (TranslationOf is_byte) (is_carried2 s)
    (λ y. push-of is_byte (carried2 s) (translate_from 2 s) (escaped-byte s y) (translated-bytes 2 s)) (λ y. tt))
    (λ e. choice (TranslationOf is_byte) (between 0x20 0x7E x)
    (λ y. push-of is_byte x (translate_from 0 s) (itself-byte x y) (translated-bytes 0 s)) (λ y. tt))

-- it is bytes
pub translate-bytes : (s : List ℕ) → TranslationOf is_byte (translate s)
unfolding translate
translate-bytes s = translated-bytes 0 s

translate-anything : (x : Translation) → TranslationOf anything x
translate-anything untranslated = tt
translate-anything (translated t) = all-anything t

-- ---- the theorems

-- what anything reads as
pub read-anything : (s : List ℕ) → ReadingOf anything (read s)
read-anything s = read_of anything (λ x. translate-anything (translate x)) s (all-anything s)

-- what reads as a frame is one
pub read_plain : (s h : List ℕ) (bs : List Block) → read s ≡ frame h bs → FrameOf anything h bs
read_plain s h bs e = rw e at (read-anything s)
