-- A header's capitals. Request 4: the "header addresses we write" are in capitals, and "Headers that differ only in this count as
-- equal in joining and in demand 2."
use Rattle.std.specs.Prelude.{ℕ, ◌+◌, ◌%◌, Bool, true, not, ◌&&◌, ◌||◌, List, [], ◌∷◌, if◌then◌else◌}
use Rattle.octets.specs.Choice.{◌is◌}
use Rattle.octets.specs.Carried.{is_small, capital}

-- the byte at place i of a header text: a pair and its comma are four bytes, so a type code stands at 0, 4, 8 ..; it is as sent,
-- since "a" to "f" are types of their own. The others are address characters, and commas, which are their own capitals.
unfoldable pub capital_at : ℕ → ℕ → ℕ
capital_at i x = if i % 4 is 0 then x else capital x

-- the bytes of a header text from place i on
unfoldable pub capitals_from : ℕ → List ℕ → List ℕ
capitals_from i [] = []
capitals_from i (x ∷ h) = capital_at i x ∷ capitals_from (i + 1) h

-- a header text with its address characters in capitals
unfoldable pub header_capitals : List ℕ → List ℕ
header_capitals h = capitals_from 0 h

-- no address character is a small letter
unfoldable pub no_small_from : ℕ → List ℕ → Bool
no_small_from i [] = true
no_small_from i (x ∷ h) = (i % 4 is 0 || not (is_small x)) && no_small_from (i + 1) h

unfoldable pub no_small : List ℕ → Bool
no_small h = no_small_from 0 h
