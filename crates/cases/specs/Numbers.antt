-- "The numbers that come back": for each, a call that answers it and a neighbour, one step away, that answers 0;
-- where the number concerns one block, a neighbour whose frame runs, of which a block is done and none refused.
use Rattle.std.specs.Prelude.{ℕ, zero, suc, ◌+◌, Bool, true, ◌&&◌, ◌||◌, List, [], ◌∷◌, ◌++◌, replicate, if◌then◌else◌}
use Rattle.octets.specs.Choice.{◌is◌, ◌isn't◌, ◌≤?◌}
use Rattle.octets.specs.Buffer.{zeros}
use Rattle.board.specs.Settings.{with_time}
use Rattle.board.specs.Board.{Board, board, with_settings, with_memory}
use Rattle.board.specs.declared.Settings.{Settings}
use Rattle.writing.specs.Writing.{write}
use Rattle.writing.specs.Reforming.{reform}
use Rattle.writing.specs.Joining.{join}
use Rattle.sign.specs.Run.{Outcome, run}
use Rattle.sign.specs.Fresh.{fresh_settings, fresh}
use Rattle.sheet.specs.Sheet.{bytes, start, in_turn}

-- a call; buffers and fresh memory are given by their lengths and start as zeros
pub data Call : Type 0 where
  fresh_board : ℕ → ℕ → Call  -- own type, memory
  frames : ℕ → List (List ℕ) → Call  -- memory of a fresh board of type "C", frames: the last one's number
  refusing : ℕ → List (List ℕ) → Call  -- the same: the number of the last one's first refused block, 0 where one is done and none refused
  running : Board → ℕ → List ℕ → Call  -- board, reply buffer, frame
  writing : ℕ → List ℕ → ℕ → List ℕ → ℕ → Call  -- form, header, command, data, output buffer
  reforming : ℕ → List ℕ → ℕ → Call  -- form, frame, output buffer
  joining : ℕ → List ℕ → List ℕ → ℕ → Call  -- form, first frame, second frame, output buffer

-- of a frame that ran: the number of its first refused block, or 0 where none is refused and one is done; else no number that comes back
unfoldable pub block_number : Outcome → ℕ
block_number x = if x.number is 0 && (x.tally.reason isn't 0 || 1 ≤? x.tally.done) then x.tally.reason else 99

-- the number that it answers
unfoldable pub number_of : Call → ℕ
number_of (fresh_board t n) = (fresh t (zeros n)).number
number_of (frames n fs) = (in_turn (start n) fs).number
number_of (refusing n fs) = block_number (in_turn (start n) fs)
number_of (running b o f) = (run b (zeros o) f).number
number_of (writing k h c d o) = (write k h c d (zeros o)).answer.number
number_of (reforming k f o) = (reform k f (zeros o)).answer.number
number_of (joining k f g o) = (join k f g (zeros o)).answer.number

-- a number, a call that answers it, and one that answers 0
pub record Row : Type 0 where
  pub number : ℕ
  pub bad : Call
  pub good : Call

abbrev pub row : ℕ → Call → Call → Row
row n b g = record { number = n; bad = b; good = g }

-- a row holds
unfoldable pub holds : Row → Bool
holds r = number_of r.bad is r.number && number_of r.good is 0

-- every row of a table
unfoldable pub all_hold : List Row → Bool
all_hold [] = true
all_hold (r ∷ rs) = holds r && all_hold rs

-- a fresh board of type "C" with so much memory, at a time
abbrev pub at : ℕ → ℕ → ℕ → Board
at k h n = board (with_time (fresh_settings 0x43 k) h n) (zeros k)

-- a frame on such a board of 64 bytes, with what is made of its settings
abbrev pub having : (Settings → Settings) → List ℕ → Call
having f frame = running (with_settings (at 64 0 0) (f (at 64 0 0).settings)) 128 frame

-- a list again and again
unfoldable pub times : ℕ → List ℕ → List ℕ
times zero l = []
times (suc n) l = l ++ times n l

-- n blocks "E'S" in a printable frame
abbrev pub many : ℕ → List ℕ
many n = bytes "_01Z00" ++ (times n (bytes "_02E'S_03") ++ bytes "_04")

-- a plain frame for a message of n spaces: 18 bytes and the message
abbrev pub long : ℕ → List ℕ
long n = bytes "\0\0\0\0\0\u{1}Z00\u{2}AA" ++ (replicate n 0x20 ++ bytes "\u{3}0000\u{4}")

-- a printable frame for such a message: 8 translated bytes and the message
abbrev pub wide : ℕ → List ℕ
wide n = bytes "_01Z00_02AA" ++ (replicate n 0x20 ++ bytes "_04")

-- such a frame, every byte of it as an escape: 8 and the message, three characters for each
abbrev pub escaped : ℕ → List ℕ
escaped n = bytes "_01_5A_30_30_02_41_41" ++ (times n (bytes "_20") ++ bytes "_04")

-- n records of a "$" list, TEXT of one byte each, their labels one after another
unfoldable pub records_from : ℕ → ℕ → List ℕ
records_from zero label = []
records_from (suc n) label = label ∷ bytes "AU0001FF00" ++ records_from n (label + 1)

-- a plain frame that sets 63 files "@" to "~" and n from "1" on
abbrev pub filing : ℕ → List ℕ
filing n = bytes "\0\0\0\0\0\u{1}Z00\u{2}E$" ++ (records_from 63 0x40 ++ (records_from n 0x31 ++ bytes "\u{4}"))

abbrev pub E'S : List ℕ
E'S = bytes "_01Z00_02E'S_04"

unfoldable pub numbers_table : List Row
numbers_table =
    -- 1 "board not sound"
    row 1 (running (at 64 24 0) 128 E'S) (running (at 64 23 0) 128 E'S)
    ∷ row 1 (running (at 63 0 0) 128 E'S) (running (at 64 0 0) 128 E'S)
    ∷ row 1 (running (with_memory (at 64 0 0) (zeros 63 ++ (1 ∷ []))) 128 E'S) (running (at 64 0 0) 128 E'S)
    -- 2 "reply buffer shorter than memory plus 64"
    ∷ row 2 (running (at 64 0 0) 127 E'S) (running (at 64 0 0) 128 E'S)
    -- 3 "input empty, over 8,192 bytes standard or 24,576 printable, or over 8,192 translated"
    ∷ row 3 (frames 64 ([] ∷ [])) (frames 64 (E'S ∷ []))
    ∷ row 3 (frames 64 (long 8175 ∷ [])) (frames 64 (long 8174 ∷ []))
    -- 24,577 characters, of which the last is a bad escape, and without it
    ∷ row 3 (frames 64 ((escaped 8184 ++ bytes "_") ∷ [])) (frames 64 (escaped 8184 ∷ []))
    ∷ row 3 (frames 64 (wide 8185 ∷ [])) (frames 64 (wide 8184 ∷ []))
    -- 4 "wrong first byte or lead"
    ∷ row 4 (frames 64 (bytes "Z00\u{2}E'S\u{4}" ∷ [])) (frames 64 (E'S ∷ []))
    ∷ row 4 (frames 64 (bytes "\0\0\0\0\u{1}Z00\u{2}E'S\u{4}" ∷ [])) (frames 64 (bytes "\0\0\0\0\0\u{1}Z00\u{2}E'S\u{4}" ∷ []))
    ∷ row 4 (frames 64 ((times 5 (1 ∷ []) ++ bytes "Z00\u{2}E'S\u{4}") ∷ [])) (frames 64 ((times 6 (1 ∷ []) ++ bytes "Z00\u{2}E'S\u{4}") ∷ []))
    ∷ row 4 (frames 64 (bytes "_00_00Z00_02E'S_04" ∷ [])) (frames 64 (bytes "_00_00_01Z00_02E'S_04" ∷ []))
    -- 5 "printable: bad escape or byte outside 20H to 7EH"
    ∷ row 5 (frames 64 (bytes "_01Z00_02E'_4G_04" ∷ [])) (frames 64 (bytes "_01Z00_02E'_4D_04" ∷ []))
    ∷ row 5 (frames 64 (bytes "_01Z00_02AA\u{7f}_04" ∷ [])) (frames 64 (bytes "_01Z00_02AA~_04" ∷ []))
    ∷ row 5 (frames 64 (bytes "_01Z00_02E'S_04_0" ∷ [])) (frames 64 (bytes "_01Z00_02E'S_04" ∷ []))
    -- 6 "bad header"; of "z" see Starting
    ∷ row 6 (frames 64 (bytes "_01y00_02E'S_04" ∷ [])) (frames 64 (bytes "_01Z00_02E'S_04" ∷ []))
    ∷ row 6 (frames 64 (bytes "_01s00,Z00_02E'S_04" ∷ [])) (frames 64 (bytes "_01r00,Z00_02E'S_04" ∷ []))
    ∷ row 6 (frames 64 (bytes "_01Z0G,Z00_02E'S_04" ∷ [])) (frames 64 (bytes "_01Z0F,Z00_02E'S_04" ∷ []))
    ∷ row 6 (frames 64 ((bytes "_01" ++ (times 16 (bytes "Z00,") ++ bytes "Z00_02E'S_04")) ∷ []))
    (frames 64 ((bytes "_01" ++ (times 15 (bytes "Z00,") ++ bytes "Z00_02E'S_04")) ∷ []))
    ∷ row 6 (frames 64 (bytes "_01Z00" ∷ [])) (frames 64 (E'S ∷ []))
    -- 7 "bad body"
    ∷ row 7 (frames 64 (many 65 ∷ [])) (frames 64 (many 64 ∷ []))
    ∷ row 7 (frames 64 (bytes "_01Z00_02E'S_04 " ∷ [])) (frames 64 (E'S ∷ []))
    ∷ row 7 (frames 64 (bytes "_01Z00_02_04" ∷ [])) (frames 64 (bytes "_01Z00_02E_04" ∷ []))
    ∷ row 7 (frames 64 (bytes "_01Z00_02E'S_0300G4_04" ∷ [])) (frames 64 (bytes "_01Z00_02E'S_0300C4_04" ∷ []))
    -- 8 "a read that is not last"
    ∷ row 8 (frames 64 (bytes "_01Z00_02F!_03_02E'S_04" ∷ [])) (frames 64 (bytes "_01Z00_02E'S_03_02F!_04" ∷ []))
    -- 9 "not addressed"
    ∷ row 9 (frames 64 (bytes "_01Z01_02E'S_04" ∷ [])) (frames 64 (bytes "_01Z01,Z00_02E'S_04" ∷ []))
    ∷ row 9 (frames 64 (bytes "_01000_02E'S_04" ∷ [])) (frames 64 (bytes "_01C00_02E'S_04" ∷ []))
    -- 10, 11 "fresh board: wrong type; wrong memory length"
    ∷ row 10 (fresh_board 0x7A 64) (fresh_board 0x75 64)
    ∷ row 11 (fresh_board 0x43 63) (fresh_board 0x43 64)
    ∷ row 11 (fresh_board 0x43 32769) (fresh_board 0x43 32768)
    -- 12, 13 "join: header texts differ; first frame has a read"
    ∷ row 12 (joining 1 E'S (bytes "_01Z01_02E'S_04") 24) (joining 1 E'S E'S 24)
    ∷ row 13 (joining 1 (bytes "_01Z00_02F!_04") E'S 24) (joining 1 E'S (bytes "_01Z00_02F!_04") 24)
    -- 14 "output buffer too short"
    ∷ row 14 (joining 1 E'S E'S 18) (joining 1 E'S E'S 19)
    ∷ row 14 (writing 3 (bytes "Z00") 0x45 (bytes "'S") 21) (writing 3 (bytes "Z00") 0x45 (bytes "'S") 22)
    -- 15 "form not 1, 2 or 3"
    ∷ row 15 (reforming 0 E'S 64) (reforming 1 E'S 64)
    ∷ row 15 (reforming 4 E'S 64) (reforming 3 E'S 64)
    -- 16 "command or data byte below 05H"
    ∷ row 16 (writing 1 (bytes "Z00") 0x04 [] 64) (writing 1 (bytes "Z00") 0x05 [] 64)
    ∷ row 16 (writing 1 (bytes "Z00") 0x41 (0x41 ∷ 0x04 ∷ []) 64) (writing 1 (bytes "Z00") 0x41 (0x41 ∷ 0x05 ∷ []) 64)
    -- 17 "input has a wrong checksum"
    ∷ row 17 (reforming 1 (bytes "_01Z00_02E'S_0300C5_04") 64) (reforming 1 (bytes "_01Z00_02E'S_0300C4_04") 64)
    -- 18 "result over 8,192 translated bytes or 64 blocks"
    ∷ row 18 (joining 1 (many 32) (many 33) 512) (joining 1 (many 32) (many 32) 512)
    ∷ row 18 (writing 1 (bytes "Z00") 0x41 (replicate 8181 0x20) 9000) (writing 1 (bytes "Z00") 0x41 (replicate 8180 0x20) 9000)
    -- 20 "block: wrong checksum"
    ∷ row 20 (refusing 64 (bytes "_01Z00_02E'S_0300C5_04" ∷ [])) (refusing 64 (bytes "_01Z00_02E'S_0300C4_04" ∷ []))
    -- 21 "unknown command byte or function label"
    ∷ row 21 (refusing 64 (bytes "_01Z00_02D'S_04" ∷ [])) (refusing 64 (E'S ∷ []))
    ∷ row 21 (refusing 64 (bytes "_01Z00_02F7_04" ∷ [])) (refusing 64 (bytes "_01Z00_02F;_04" ∷ []))
    -- 22 "data missing, in excess, or malformed"
    ∷ row 22 (refusing 64 (bytes "_01Z00_02E 2400_04" ∷ [])) (refusing 64 (bytes "_01Z00_02E 2359_04" ∷ []))
    ∷ row 22 (refusing 64 (bytes "_01Z00_02E;130100_04" ∷ [])) (refusing 64 (bytes "_01Z00_02E;120100_04" ∷ []))
    ∷ row 22 (refusing 64 (bytes "_01Z00_02E!F0_04" ∷ [])) (refusing 64 (bytes "_01Z00_02E!FF_04" ∷ []))
    ∷ row 22 (refusing 64 (bytes "_01Z00_02F!0_04" ∷ [])) (refusing 64 (bytes "_01Z00_02F!_04" ∷ []))
    -- 23 "no file of that label and type"
    ∷ row 23 (refusing 64 (bytes "_01Z00_02E$AAU0005FF00_03_02GAHELLO_04" ∷ [])) (refusing 64 (bytes "_01Z00_02E$AAU0005FF00_03_02AAHELLO_04" ∷ []))
    -- 24 "message longer than SIZE"
    ∷ row 24 (refusing 64 (bytes "_01Z00_02E$AAU0005FF00_03_02AAHELLO!_04" ∷ [])) (refusing 64 (bytes "_01Z00_02E$AAU0005FF00_03_02AAHELLO_04" ∷ []))
    -- 25, 26, 27 ""$": bad record, count or length; label twice; no room"
    ∷ row 25 (refusing 64 (bytes "_01Z00_02E$0AU0005FF00_04" ∷ [])) (refusing 64 (bytes "_01Z00_02E$1AU0005FF00_04" ∷ []))
    ∷ row 25 (refusing 64 (bytes "_01Z00_02E$SBL007E0000_04" ∷ [])) (refusing 512 (bytes "_01Z00_02E$SBL007D0000_04" ∷ []))
    -- 65 records, a byte too many, a byte too few
    ∷ row 25 (refusing 1024 (filing 2 ∷ [])) (refusing 1024 (filing 1 ∷ []))
    ∷ row 25 (refusing 64 (bytes "_01Z00_02E$AAU0005FF00B_04" ∷ [])) (refusing 64 (bytes "_01Z00_02E$AAU0005FF00_04" ∷ []))
    ∷ row 25 (refusing 64 (bytes "_01Z00_02E$AAU0005FF0_04" ∷ [])) (refusing 64 (bytes "_01Z00_02E$AAU0005FF00_04" ∷ []))
    ∷ row 26 (refusing 64 (bytes "_01Z00_02E$AAU0005FF00ABU00050000_04" ∷ [])) (refusing 64 (bytes "_01Z00_02E$AAU0005FF00BBU00050000_04" ∷ []))
    ∷ row 27 (refusing 64 (bytes "_01Z00_02E$AAU0036FF00_04" ∷ [])) (refusing 64 (bytes "_01Z00_02E$AAU0035FF00_04" ∷ []))
    ∷ []
