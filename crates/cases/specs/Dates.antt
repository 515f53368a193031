-- Request 1, "A thirty-first of February got in.": dates that do not exist, each with a neighbour that does, as a command and on a board.
use Rattle.std.specs.Prelude.{ℕ, List, [], ◌∷◌, ◌++◌, drop}
use Prim.Native.String.{String}
use Rattle.octets.specs.Decimal.{decimal2}
use Rattle.board.specs.Settings.{with_date}
use Rattle.sheet.specs.Sheet.{bytes}
use Rattle.cases.specs.Numbers.{Call, refusing, Row, row, having, E'S}

-- Set Date with these data, "six digits MmDdYy"
abbrev pub sent : List ℕ → Call
sent d = refusing 64 ((bytes "_01Z00_02E;" ++ d ++ bytes "_04") ∷ [])

-- a frame on a board that holds this month, day and year, all else in range
abbrev pub held : ℕ → ℕ → ℕ → Call
held m d y = having (λ s. with_date s m d y) E'S

-- the date of such data
abbrev pub held_as : List ℕ → Call
held_as d = held (decimal2 d) (decimal2 (drop 2 d)) (decimal2 (drop 4 d))

-- "Refusals: 22 for the command and 1 for a board."
unfoldable pub each_way : String → String → List Row
each_way b g = row 22 (sent (bytes b)) (sent (bytes g)) ∷ row 1 (held_as (bytes b)) (held_as (bytes g)) ∷ []

unfoldable pub dates_table : List Row
dates_table =
    -- "An attendant typed 02 31"
    each_way "023126" "022826"
    -- 29 February by the year, and the day after it
    ++ each_way "022999" "022900"
    ++ each_way "023000" "022904"
    ++ each_way "023099" "022899"
    -- the last days of a short and of a long month
    ++ each_way "043100" "043000"
    ++ each_way "123299" "123199"
    -- month 00 and 13, day 00
    ++ each_way "000100" "010100"
    ++ each_way "130100" "120100"
    ++ each_way "010000" "010100"
    -- "years being 2000 to 2099": a board's year can be a later one
    ++ (row 1 (held 1 1 100) (held 12 31 99) ∷ [])
