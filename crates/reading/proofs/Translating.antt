-- What stands at the front of a printable text: a byte that stands for itself, an escape and its two digits, or bytes up to the next "_".
use mathlib.Core.Path.{◌≡◌, refl, sym, ap, ◌∙◌}
use mathlib.Core.Bool.{true, false}
use mathlib.Core.List.{List, [], ◌∷◌, ◌++◌}
use Prim.Native.Nat.{ℕ, zero, suc, ◌+◌, ◌*◌, ◌/◌, ◌%◌, ◌<◌}
use native.Mathlib.Omega.{arith}
use lib.ListN.{drop}
use borrow.Author.Tests.{lt-ltb}
use Rattle.octets.specs.Choice.{◌is◌, between, front, behind}
use Rattle.octets.specs.InnerEqual.{differs}
use Rattle.octets.specs.Hex.{digit, value, is_hex2, hex2}
use Rattle.octets.specs.Carried.{capitals}
use Rattle.octets.specs.Bytes.{ESCAPE}
use Rattle.octets.proofs.Digits.{value-digit}
use Rattle.octets.proofs.Capitals.{capital-digit}
use Rattle.octets.proofs.Tests.{by-test, never}
use Rattle.reading.specs.Translation.{Translation, untranslated, translated, push, translate_from}
use Rattle.reading.specs.Places.{bytes_of}
use Rattle.reading.specs.InnerParts.{unmarked, is_whole}

-- bytes that belong to an escape are passed over
pub translate-skip : (k : ℕ) (l : List ℕ) → translate_from k l ≡ translate_from 0 (drop k l)
unfolding translate_from
translate-skip zero l = refl
translate-skip (suc k) [] = refl
translate-skip (suc k) (x ∷ l) = translate-skip k l

-- "_" and the two digits of a byte stand for it
pub translate-escaped : (x : ℕ) (l : List ℕ) → x < 256
    → translate_from 0 (ESCAPE ∷ digit (x / 16) ∷ digit (x % 16) ∷ l) ≡ push x (translate_from 0 l)
unfolding translate_from is_hex2 hex2 capitals
translate-escaped x l h =
    let a : value (digit (x / 16)) ≡ x / 16 = value-digit (x / 16) (omega arith) in
    let b : value (digit (x % 16)) ≡ x % 16 = value-digit (x % 16) (omega arith) in
    let v : x / 16 * 16 + x % 16 ≡ x = omega arith in
    simp (capital-digit (x / 16) (omega arith), capital-digit (x % 16) (omega arith), a, b, v, lt-ltb (x / 16) 16 (omega arith), lt-ltb (x % 16) 16 (omega arith))

-- a byte from 20H to 7EH other than "_" stands for itself
pub translate-itself : (x : ℕ) (l : List ℕ) → between 0x20 0x7E x ≡ true → x is ESCAPE ≡ false
    → translate_from 0 (x ∷ l) ≡ push x (translate_from 0 l)
unfolding translate_from
translate-itself x l a e = rw (e, a)

-- ---- a byte in front of what the others stand for

pub whole-push : (b : ℕ) (t : Translation) → is_whole (push b t) ≡ is_whole t
unfolding is_whole push
whole-push b untranslated = refl
whole-push b (translated t) = refl

pub bytes-push : (b : ℕ) (t : Translation) → is_whole t ≡ true → bytes_of (push b t) ≡ b ∷ bytes_of t
unfolding bytes_of push is_whole
bytes-push b untranslated w = never (sym w)
bytes-push b (translated t) w = refl

-- ---- bytes up to the next "_"

-- they stand for themselves, in front of what the text from there on stands for
pub record Unmarked (l : List ℕ) : Type 0 where
  pub whole : is_whole (translate_from 0 (behind (differs ESCAPE) l)) ≡ true
  pub bytes : bytes_of (translate_from 0 l) ≡ unmarked l ++ bytes_of (translate_from 0 (behind (differs ESCAPE) l))

itself-only : (x : ℕ) (l : List ℕ) → x is ESCAPE ≡ false → is_whole (translate_from 0 (x ∷ l)) ≡ true → translate_from 0 (x ∷ l) ≡ push x (translate_from 0 l)
unfolding translate_from is_whole
itself-only x l e w = by-test (between 0x20 0x7E x) (λ f. rw (e, f)) (λ f. never (sym (rw (e, f) at w)))

pub run-unmarked : (l : List ℕ) → is_whole (translate_from 0 l) ≡ true → Unmarked l
unfolding front behind differs
run-unmarked [] w = record { whole = w; bytes = refl }
run-unmarked (x ∷ l) w =
    by-test (x is ESCAPE) (λ e. record { whole = rw e w; bytes = rw e refl }) (λ e.
    let z = itself-only x l e w in
    let v : is_whole (translate_from 0 l) ≡ true = sym (whole-push x (translate_from 0 l)) ∙ rw z at w in
    let g = run-unmarked l v in
    record {
      whole = rw e g.whole;
      bytes = rw e (ap bytes_of z ∙ bytes-push x (translate_from 0 l) v ∙ ap (λ (r : List ℕ). x ∷ r) g.bytes);
    })
