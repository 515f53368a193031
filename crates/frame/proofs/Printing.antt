-- The printable form: what is escaped translates back, starts with "_", and is bytes.
use mathlib.Core.Path.{◌≡◌, refl, ap, ◌∙◌}
use mathlib.Core.Bool.{Bool, true, false}
use mathlib.Core.List.{List, [], ◌∷◌}
use Prim.Native.Nat.{ℕ, ◌/◌, ◌%◌, ◌<◌}
use native.Mathlib.Omega.{arith}
use borrow.Author.Tests.{lt-ltb, ltb-true, not-true}
use Rattle.std.specs.Prelude.{if◌then◌else◌}
use Rattle.octets.specs.Choice.{◌is◌, between, is_byte, all}
use Rattle.octets.specs.Hex.{digit}
use Rattle.octets.specs.Bytes.{SOH, ESCAPE}
use Rattle.octets.proofs.Tests.{choice, split}
use Rattle.octets.proofs.Lists.{all_head, all_tail, all_cons}
use Rattle.octets.proofs.Digits.{digit-small}
use Rattle.reading.specs.Translation.{translated, push, translate_from, translate}
use Rattle.reading.proofs.Translating.{translate-escaped, translate-itself}
use Rattle.forms.specs.Forms.{is_itself, escape}

-- ---- back

one_byte : (x : ℕ) (l : List ℕ) → x < 256 → (t : Bool) → is_itself x ≡ t
    → translate_from 0 (if t then x ∷ l else ESCAPE ∷ digit (x / 16) ∷ digit (x % 16) ∷ l) ≡ push x (translate_from 0 l)
unfolding is_itself
one_byte x l h true e =
    let p = split (between 0x20 0x7E x) e in
    translate-itself x l p.0 (not-true (x is ESCAPE) p.1)
one_byte x l h false e = translate-escaped x l h

-- what is escaped stands for what it was made of
pub back-printable : (l : List ℕ) → all is_byte l ≡ true → translate (escape l) ≡ translated l
unfolding translate escape push is_byte
back-printable [] h = unfold translate_from in refl
back-printable (x ∷ l) h =
    one_byte x (escape l) (ltb-true x 256 (all_head is_byte x l h)) (is_itself x) refl
    ∙ ap (push x) (back-printable l (all_tail is_byte x l h))

-- ---- what it looks like

-- the escape of SOH
pub escape-lead : (l : List ℕ) → escape (SOH ∷ l) ≡ ESCAPE ∷ 0x30 ∷ 0x31 ∷ escape l
unfolding escape is_itself digit
escape-lead l = refl

digit-byte : (n : ℕ) → n < 16 → is_byte (digit n) ≡ true
unfolding is_byte
digit-byte n h = lt-ltb (digit n) 256 (digit-small n h)

-- bytes, escaped, are bytes
pub escape-bytes : (l : List ℕ) → all is_byte l ≡ true → all is_byte (escape l) ≡ true
unfolding escape
escape-bytes [] a = a
escape-bytes (x ∷ l) a =
    let h : x < 256 = unfold is_byte in ltb-true x 256 (all_head is_byte x l a) in
    let r : all is_byte (escape l) ≡ true = escape-bytes l (all_tail is_byte x l a) in
    choice (λ t. all is_byte t ≡ true) (is_itself x)
    (λ e. all_cons is_byte x (escape l) (all_head is_byte x l a) r)
    (λ e. all_cons is_byte ESCAPE (digit (x / 16) ∷ digit (x % 16) ∷ escape l) (unfold is_byte in refl)
    (all_cons is_byte (digit (x / 16)) (digit (x % 16) ∷ escape l) (digit-byte (x / 16) (omega arith))
    (all_cons is_byte (digit (x % 16)) (escape l) (digit-byte (x % 16) (omega arith)) r)))
