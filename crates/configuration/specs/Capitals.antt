-- The "$" list in capitals. Request 4 takes small letters in "the hex digits of configuration records", and "What we store and reply
-- stays in capitals".
use Rattle.std.specs.Prelude.{ℕ, suc, ◌%◌, List, [], ◌∷◌, if◌then◌else◌}
use Rattle.octets.specs.Choice.{◌<?◌}
use Rattle.octets.specs.Carried.{capital}

-- the bytes of a list from place k on: the first three of each eleven, F, T and P, are no hex digits and are as sent; SIZE and QQQQ in capitals
unfoldable pub capitals_from : ℕ → List ℕ → List ℕ
capitals_from k [] = []
capitals_from k (x ∷ d) = (if k % 11 <? 3 then x else capital x) ∷ capitals_from (suc k) d

-- the whole list
abbrev pub list_capitals : List ℕ → List ℕ
list_capitals d = capitals_from 0 d
