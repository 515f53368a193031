-- Request 10, "Which kind of fault was it?": what blocks of each number leave in the register, what clears it, registers on boards, and
-- the port driver's call.
use Rattle.std.specs.Prelude.{ℕ, ◌≡◌, List, [], ◌∷◌, take}
use Prim.Native.String.{String}
use Rattle.octets.specs.Bytes.{E}
use Rattle.board.specs.Settings.{with_errors}
use Rattle.board.specs.declared.Settings.{Settings}
use Rattle.effects.specs.Reply.{reply_of}
use Rattle.special.specs.Special.{ERRORS}
use Rattle.sign.specs.Errors.{driven_as, port_errors}
use Rattle.sheet.specs.Sheet.{Example, replies, Says, on_fresh}
use Rattle.cases.specs.Numbers.{Call, Row, row, block_number, at, having, E'S}

-- a frame on a board that holds this register
abbrev pub holding : ℕ → Call
holding r = having (λ s. with_errors s r) E'S

-- "1 for a register whose fixed bits are not as the table has them"
unfoldable pub registers_table : List Row
registers_table =
    row 1 (holding 0x00) (holding 0x40)
    ∷ row 1 (holding 0x3F) (holding 0x7F)
    ∷ row 1 (holding 0x80) (holding 0x40)
    ∷ row 1 (holding 0xC0) (holding 0x48)
    ∷ row 1 (holding 0xFF) (holding 0x7F)
    ∷ []

-- settings at 24:00 with this register: the port driver's call looks at nothing else
abbrev pub late : ℕ → Settings
late r = with_errors (at 64 24 0).settings r

-- what is seen of the register; frames run on a fresh board of 64 bytes
pub data Fault : Type 0 where
  leaves : List String → ℕ → ℕ → Fault  -- frames: the number of the last one's first refused block, 0 where one is done and none refused; the register then
  tells : List String → ℕ → Fault  -- frames: the register that the last one replies with; it is cleared then
  drives : ℕ → ℕ → ℕ → ℕ → Fault  -- register, bits: number, register then
  example : Example → Fault

abbrev pub Shows : Fault → Type 0
Shows (leaves fs n r) = (block_number (on_fresh 64 fs) ≡ n) × ((on_fresh 64 fs).after.settings.errors ≡ r)
Shows (tells fs r) =
    (take (on_fresh 64 fs).tally.length (on_fresh 64 fs).reply ≡ reply_of E ERRORS (r ∷ []))
    × ((on_fresh 64 fs).after.settings.errors ≡ 0x40)
Shows (drives r b n x) = port_errors (late r) b ≡ driven_as n (late x)
Shows (example e) = Says e

-- a block that is refused with 21, and one with 20
abbrev pub UNKNOWN : String
UNKNOWN = "_01Z00_02D'S_04"

abbrev pub WRONG-SUM : String
WRONG-SUM = "_01Z00_02E'S_0300C5_04"

-- read the register
abbrev pub ASK : String
ASK = "_01Z00_02F*_04"

unfoldable pub faults_table : List Fault
faults_table =
    -- "A block refused with 20 sets the checksum bit"
    leaves (WRONG-SUM ∷ []) 20 0x50
    -- "21 or 23 sets the illegal command or label bit"; E "*" and F "4" are no functions
    ∷ leaves (UNKNOWN ∷ []) 21 0x60
    ∷ leaves ("_01Z00_02E8_04" ∷ []) 21 0x60
    ∷ leaves ("_01Z00_02F7_04" ∷ []) 21 0x60
    ∷ leaves ("_01Z00_02E*_04" ∷ []) 21 0x60
    ∷ leaves ("_01Z00_02F4_04" ∷ []) 21 0x60
    ∷ leaves ("_01Z00_02AAHELLO_04" ∷ []) 23 0x60
    ∷ leaves ("_01Z00_02BA_04" ∷ []) 23 0x60
    -- an unknown command with a wrong sum is 20
    ∷ leaves ("_01Z00_02D'S_0300C5_04" ∷ []) 20 0x50
    -- 22 and 24 to 27 set none
    ∷ leaves ("_01Z00_02E 2400_04" ∷ []) 22 0x40
    ∷ leaves ("_01Z00_02E_04" ∷ []) 22 0x40
    ∷ leaves ("_01Z00_02E$AAU0005FF00_03_02AAHELLO!_04" ∷ []) 24 0x40
    ∷ leaves ("_01Z00_02E$0AU0005FF00_04" ∷ []) 25 0x40
    ∷ leaves ("_01Z00_02E$AAU0005FF00ABU00050000_04" ∷ []) 26 0x40
    ∷ leaves ("_01Z00_02E$AAU0036FF00_04" ∷ []) 27 0x40
    -- both, in one frame and in two
    ∷ leaves ("_01Z00_02E'S_0300C5_02D'S_04" ∷ []) 20 0x70
    ∷ leaves (UNKNOWN ∷ WRONG-SUM ∷ []) 20 0x70
    -- "a bit stays until cleared": blocks that are done, and other reads, leave it
    ∷ leaves (UNKNOWN ∷ "_01Z00_02E'S_04" ∷ []) 0 0x60
    ∷ leaves (UNKNOWN ∷ "_01Z00_02F!_04" ∷ []) 0 0x60
    -- E "4" clears; "22 for data in excess"
    ∷ leaves (UNKNOWN ∷ "_01Z00_02E4_04" ∷ []) 0 0x40
    ∷ leaves (UNKNOWN ∷ "_01Z00_02E40_04" ∷ []) 22 0x60
    ∷ leaves (UNKNOWN ∷ "_01Z00_02E4_0300C5_04" ∷ []) 20 0x70
    -- F "*" replies with the register as it was, and clears it
    ∷ tells (ASK ∷ []) 0x40
    ∷ tells (UNKNOWN ∷ ASK ∷ []) 0x60
    ∷ tells (UNKNOWN ∷ ASK ∷ ASK ∷ []) 0x40
    ∷ tells ("_01Z00_02D'S_03_02E'S_03_02F*_04" ∷ []) 0x60
    ∷ tells ("_01Z00_02D'S_03_02E4_03_02F*_04" ∷ []) 0x40
    ∷ tells ("_01Z00_02E4_03_02D'S_03_02F*_04" ∷ []) 0x60
    ∷ example (replies 64 (UNKNOWN ∷ WRONG-SUM ∷ ASK ∷ []) "\0\0\0\0\0\0\0\0\0\0\0\0\0\0\0\0\0\0\0\0\u{1}000\u{2}E*p\u{3}00E4\u{4}")
    -- refused with 22 or 20 it neither replies nor clears
    ∷ leaves (UNKNOWN ∷ "_01Z00_02F*0_04" ∷ []) 22 0x60
    ∷ leaves (UNKNOWN ∷ "_01Z00_02F*_030076_04" ∷ []) 20 0x70
    -- "Parity, framing and time-out bits come from the port driver": each, all, and none that the byte lacks is cleared
    ∷ drives 0x40 0x01 0 0x41
    ∷ drives 0x40 0x02 0 0x42
    ∷ drives 0x40 0x04 0 0x44
    ∷ drives 0x70 0x07 0 0x77
    ∷ drives 0x41 0x00 0 0x41
    ∷ drives 0x47 0x02 0 0x47
    -- "which ignores other bits"
    ∷ drives 0x40 0xF8 0 0x40
    ∷ drives 0x7F 0xFF 0 0x7F
    -- "1 for a register whose fixed bits are not as the table has them"
    ∷ drives 0x00 0x07 1 0x00
    ∷ drives 0x3F 0x00 1 0x3F
    ∷ drives 0x80 0x01 1 0x80
    ∷ drives 0xC0 0x07 1 0xC0
    ∷ []
