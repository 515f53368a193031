-- Request 11, "First start of a new sign": a board "first gets, as by "$", files A to Z of 150 bytes each, TEXT, unlocked, always shown
-- (start FF, stop 00)".
use Rattle.std.specs.Prelude.{ℕ, zero, suc, List, [], ◌∷◌, ◌++◌}
use Rattle.octets.specs.Hex.{in_hex4}
use Rattle.board.specs.Files.{TEXT}
use Rattle.board.specs.Board.{Board}
use Rattle.configuration.specs.Configuration.{replaced}

-- the record of a label: TEXT, "U", 150 bytes, FF, 00
unfoldable pub start_record : ℕ → List ℕ
start_record label = label ∷ TEXT ∷ 0x55 ∷ (in_hex4 150 ++ (0x46 ∷ 0x46 ∷ 0x30 ∷ 0x30 ∷ []))

-- those of n labels from one on
unfoldable pub start_records : ℕ → ℕ → List ℕ
start_records zero label = []
start_records (suc n) label = start_record label ++ start_records n (suc label)

-- "files A to Z"
unfoldable pub start_list : List ℕ
start_list = start_records 26 0x41

-- "28, memory below 4,186 bytes"
abbrev pub START-MEMORY : ℕ
START-MEMORY = 4186

-- a board with these files in place of its own
unfoldable pub started : Board → Board
started b = replaced b start_list
