-- Request 9, "Signs that read two degrees warm.": offsets that are set and fields that are bad, offsets on boards, and readings, each
-- number beside a neighbour that answers 0.
use Rattle.std.specs.Prelude.{ℕ, ◌≡◌, List, [], ◌∷◌, ◌++◌, ℤ, pos}
use Prim.Native.String.{String}
use Rattle.octets.specs.Buffer.{zeros}
use Rattle.temperature.specs.Correcting.{corrected, add_offset}
use Rattle.board.specs.Settings.{with_offset}
use Rattle.board.specs.Board.{Board, board}
use Rattle.sign.specs.Run.{tally, outcome_as, run}
use Rattle.sign.specs.Fresh.{fresh_settings}
use Rattle.sheet.specs.Sheet.{bytes}
use Rattle.cases.specs.Numbers.{Call, refusing, Row, row, having, E'S}
use Rattle.cases.specs.Renewals.{on, back}

-- Set Temperature Offset with these data
abbrev pub setting : String → List ℕ
setting d = bytes "_01Z00_02ET" ++ bytes d ++ bytes "_04"

abbrev pub sets : String → Call
sets d = refusing 64 (setting d ∷ [])

-- a frame on a board that holds this offset
abbrev pub holding : ℤ → Call
holding z = having (λ s. with_offset s z) E'S

-- "22 for a bad field; 1 for an offset outside -9 to 9"; "Read Temperature Offset" is no function of ours
unfoldable pub offsets_table : List Row
offsets_table =
    -- missing, a sign or a digit alone, three characters, in the wrong order
    row 22 (sets "") (sets "+0")
    ∷ row 22 (sets "+") (sets "+2")
    ∷ row 22 (sets "2") (sets "-2")
    ∷ row 22 (sets "+02") (sets "+0")
    ∷ row 22 (sets "2+") (sets "+2")
    -- what stands beside "+" and "-", and beside the digits; letters
    ∷ row 22 (sets "*2") (sets "+2")
    ∷ row 22 (sets ",2") (sets "-2")
    ∷ row 22 (sets ".2") (sets "-2")
    ∷ row 22 (sets "+/") (sets "+0")
    ∷ row 22 (sets "-:") (sets "-9")
    ∷ row 22 (sets "+A") (sets "+9")
    -- F "T", and E with a small "t"
    ∷ row 21 (refusing 64 (bytes "_01Z00_02FT_04" ∷ [])) (sets "+2")
    ∷ row 21 (refusing 64 (bytes "_01Z00_02Et+2_04" ∷ [])) (sets "+2")
    -- on a board
    ∷ row 1 (holding (back 10)) (holding (back 9))
    ∷ row 1 (holding (on 10)) (holding (on 9))
    ∷ row 1 (holding (back 128)) (holding (on 0))
    ∷ row 1 (holding (on 127)) (holding (on 0))
    ∷ []

-- a fresh board of a type, with an offset
abbrev pub warm : ℕ → ℤ → Board
warm t z = board (with_offset (fresh_settings t 64) z) (zeros 64)

-- a call and what it answers
pub data Measured : Type 0 where
  stores : ℕ → String → ℤ → Measured  -- own type, data on a board whose offset is 5: the offset then, and nothing else has changed
  adds : ℤ → ℤ → ℕ → ℤ → Measured  -- offset, reading; number, sum

abbrev pub Measures : Measured → Type 0
Measures (stores t d z) =
    run (warm t (pos 5)) (zeros 128) (setting d) ≡ outcome_as 0 (tally 1 0 0 0 0) (warm t z) (zeros 128)
Measures (adds o r n z) = add_offset o r ≡ corrected n z

unfoldable pub temperatures_table : List Measured
temperatures_table =
    -- "so -9 to 9"; ""-0" and "+0" store the same offset."
    stores 0x43 "+9" (on 9)
    ∷ stores 0x43 "-9" (back 9)
    ∷ stores 0x43 "+0" (on 0)
    ∷ stores 0x43 "-0" (on 0)
    -- "on every type, Solar too": "m" and "p" are, "C" and "u" are not
    ∷ stores 0x6D "-2" (back 2)
    ∷ stores 0x70 "+2" (on 2)
    ∷ stores 0x75 "-2" (back 2)
    -- "signs that read two degrees warm"
    ∷ adds (back 2) (on 21) 0 (on 19)
    ∷ adds (back 2) (on 1) 0 (back 1)
    ∷ adds (on 2) (back 1) 0 (on 1)
    ∷ adds (on 0) (back 40) 0 (back 40)
    -- "the exact sum", where one byte would not hold it
    ∷ adds (on 9) (on 127) 0 (on 136)
    ∷ adds (on 1) (on 127) 0 (on 128)
    ∷ adds (back 9) (back 128) 0 (back 137)
    ∷ adds (back 1) (back 128) 0 (back 129)
    ∷ adds (back 9) (on 127) 0 (on 118)
    ∷ adds (on 9) (back 128) 0 (back 119)
    -- 33 "for a reading outside its range"
    ∷ adds (on 0) (on 128) 33 (on 0)
    ∷ adds (on 0) (back 129) 33 (on 0)
    ∷ adds (back 9) (on 32767) 33 (on 0)
    ∷ adds (on 9) (back 32768) 33 (on 0)
    -- "1 for an offset outside -9 to 9, from the call too; then 33"
    ∷ adds (on 10) (on 127) 1 (on 0)
    ∷ adds (back 10) (back 128) 1 (on 0)
    ∷ adds (on 127) (on 128) 1 (on 0)
    ∷ adds (back 128) (back 129) 1 (on 0)
    ∷ []
