-- Request 7, "Sixty files and a slow lookup.": boards with a wrong index, each beside the one with the right index.
use Rattle.std.specs.Prelude.{ℕ, ◌-◌, List, [], ◌∷◌, ◌++◌, set}
use Prim.Native.String.{String}
use Rattle.board.specs.Settings.{with_files}
use Rattle.board.specs.Index.{FIRST-LABEL, NOWHERE}
use Rattle.board.specs.Board.{Board, with_settings, with_memory}
use Rattle.effects.specs.Reply.{reply_room}
use Rattle.sign.specs.Run.{Outcome}
use Rattle.sheet.specs.Sheet.{on_fresh}
use Rattle.cases.specs.Numbers.{Call, running, Row, row, E'S}

-- a board with another place for a label
abbrev pub placing : Board → ℕ → ℕ → Board
placing b label place = with_settings b (with_files b.settings b.settings.files b.settings.unused (set b.settings.places (label - FIRST-LABEL) place))

-- a frame on the board that a run left, but with this place for a label
abbrev pub indexing : Outcome → ℕ → ℕ → Call
indexing x label place = running (placing x.after label place) (reply_room x.after.memory) E'S

-- a fresh board of 512 bytes after frames: places of a label that are wrong on it, and the one that is right
unfoldable pub misplaced : List String → ℕ → List ℕ → ℕ → List Row
misplaced fs label [] right = []
misplaced fs label (p ∷ ps) right =
    row 1 (indexing (on_fresh 512 fs) label p) (indexing (on_fresh 512 fs) label right) ∷ misplaced fs label ps right

-- the files "A" at place 0 and "S" at place 27, with 16 and 8 bytes of content; what is behind them starts at place 46
abbrev pub two : List String
two = "_01Z00_02E$AAU0010FF00SBL00080000_04" ∷ []

-- a frame on that board, its second file under another label: "S" has no entry, the new label has that file's, and then "A" has this one
abbrev pub relabelled : Outcome → ℕ → ℕ → Call
relabelled x label place =
    running (with_memory (placing (placing (placing x.after 0x53 NOWHERE) label 27) 0x41 place) (set x.after.memory 27 label))
    (reply_room x.after.memory) E'S

-- "1 when it is wrong"
unfoldable pub index_table : List Row
index_table =
    -- a place off by one, another file's, the start of its content, that of no file, memory's end and beyond, none
    misplaced two 0x41 (1 ∷ 11 ∷ 27 ∷ 46 ∷ 511 ∷ 512 ∷ 513 ∷ 65534 ∷ NOWHERE ∷ []) 0
    ++ misplaced two 0x53 (26 ∷ 28 ∷ 0 ∷ 38 ∷ 46 ∷ 512 ∷ NOWHERE ∷ []) 27
    -- a place for a label that no file has: the first and the last label, "0", "?" and "B"
    ++ misplaced two 0x20 (0 ∷ 27 ∷ []) NOWHERE
    ++ misplaced two 0x7E (0 ∷ 46 ∷ []) NOWHERE
    ++ misplaced two 0x30 (0 ∷ []) NOWHERE
    ++ misplaced two 0x3F (27 ∷ []) NOWHERE
    ++ misplaced two 0x42 (0 ∷ 27 ∷ 46 ∷ 512 ∷ []) NOWHERE
    -- two files of the label "A", of two types, whichever of them the entry names; beside them the second file is "B"
    ++ row 1 (relabelled (on_fresh 512 two) 0x41 0) (relabelled (on_fresh 512 two) 0x42 0)
    ∷ row 1 (relabelled (on_fresh 512 two) 0x41 27) (relabelled (on_fresh 512 two) 0x42 0)
    ∷ []
