-- The printable form, "where "_" and two upper-case hex digits stand for that byte and 20H to 7EH otherwise stand for themselves";
-- request 4: small letters too.
use Rattle.std.specs.Prelude.{ℕ, zero, suc, List, [], ◌∷◌, if◌then◌else◌}
use Rattle.octets.specs.Choice.{◌is◌, between}
use Rattle.octets.specs.Carried.{is_carried2, carried2}
use Rattle.octets.specs.Bytes.{ESCAPE}

-- the translated bytes, or none for a "bad escape or byte outside 20H to 7EH"
pub data Translation : Type 0 where
  untranslated : Translation
  translated : List ℕ → Translation

-- a byte in front of what the others stand for
unfoldable pub push : ℕ → Translation → Translation
push x untranslated = untranslated
push x (translated t) = translated (x ∷ t)

-- the first number says how many bytes still belong to the last escape
unfoldable pub translate_from : ℕ → List ℕ → Translation
translate_from k [] = translated []
translate_from (suc k) (x ∷ s) = translate_from k s
translate_from zero (x ∷ s) =
    let escaped : Translation = push (carried2 s) (translate_from 2 s) in
    let itself : Translation = push x (translate_from 0 s) in
    if x is ESCAPE then (if is_carried2 s then escaped else untranslated)
    else if between 0x20 0x7E x then itself
    else untranslated

-- the whole of it
unfoldable pub translate : List ℕ → Translation
translate s = translate_from 0 s
