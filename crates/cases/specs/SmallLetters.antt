-- Request 4, "Meters that send small letters.": where a to f are taken, and where not; what is stored, replied and written then.
use Rattle.std.specs.Prelude.{ℕ, ◌≡◌, List, [], ◌∷◌, set}
use Prim.Native.String.{String}
use Rattle.octets.specs.Buffer.{zeros}
use Rattle.board.specs.Settings.{with_address}
use Rattle.board.specs.Board.{Board, with_memory}
use Rattle.writing.specs.Writing.{write}
use Rattle.writing.specs.Reforming.{reform}
use Rattle.writing.specs.Joining.{join}
use Rattle.frame.specs.Results.{result_of}
use Rattle.sheet.specs.Sheet.{bytes, Example, numbers, stores, replies, alike, Says, on_fresh}
use Rattle.cases.specs.Numbers.{Call, frames, refusing, running, writing, joining, Row, row, having, E'S}

-- a byte of a frame, and a block of it
abbrev pub frame : String → Call
frame f = frames 64 (bytes f ∷ [])

abbrev pub block : String → Call
block f = refusing 64 (bytes f ∷ [])

-- a frame on a board at address AF
abbrev pub at-AF : String → Call
at-AF f = having (λ s. with_address s 0xAF) (bytes f)

-- a frame on a board whose file "A" has ten bytes, with this byte at a place of its record
abbrev pub holding : ℕ → ℕ → Call
holding k x =
    let b : Board = (on_fresh 64 ("_01Z00_02E$AAU000AFF00_04" ∷ [])).after in
    running (with_memory b (set b.memory k x)) 128 E'S

-- two frames joined in form 2
abbrev pub both : String → String → Call
both f g = joining 2 (bytes f) (bytes g) 64

-- each beside its neighbour, which is taken
unfoldable pub letters_table : List Row
letters_table =
    -- taken: escapes, checksums, header addresses, Set Serial Address
    row 5 (frame "_01Z00_02E'_4g_04") (frame "_01Z00_02E'_4d_04")
    ∷ row 5 (frame "_01Z00_02E'_4`_04") (frame "_01Z00_02E'_4f_04")
    ∷ row 7 (frame "_01Z00_02E'S_0300g4_04") (frame "_01Z00_02E'S_0300a4_04")
    ∷ row 20 (block "_01Z00_02E'S_0300c5_04") (block "_01Z00_02E'S_0300c4_04")
    ∷ row 6 (frame "_01Z0g,Z00_02E'S_04") (frame "_01Z0f,Z00_02E'S_04")
    ∷ row 6 (frame "_01Z`0,Z00_02E'S_04") (frame "_01Za0,Z00_02E'S_04")
    ∷ row 9 (at-AF "_01Zae_02E'S_04") (at-AF "_01Zaf_02E'S_04")
    ∷ row 9 (at-AF "_01Z?e_02E'S_04") (at-AF "_01Z?f_02E'S_04")
    ∷ row 6 (writing 1 (bytes "Z0g") 0x45 (bytes "'S") 24) (writing 1 (bytes "Z0f") 0x45 (bytes "'S") 24)
    ∷ row 22 (block "_01Z00_02E71g_04") (block "_01Z00_02E71f_04")
    -- SIZE and QQQQ of the "$" list
    ∷ row 25 (block "_01Z00_02E$AAU000gFF00_04") (block "_01Z00_02E$AAU000fFF00_04")
    ∷ row 25 (block "_01Z00_02E$ABL007e0000_04") (block "_01Z00_02E$ABL001d0000_04")
    ∷ row 25 (block "_01Z00_02E$AAU000Afc00_04") (block "_01Z00_02E$AAU000Afd00_04")
    ∷ row 25 (block "_01Z00_02E$AAU000A008g_04") (block "_01Z00_02E$AAU000A008f_04")
    -- not taken: F, T and P of a record, "!", type codes
    ∷ row 25 (block "_01Z00_02E$AaU000AFF00_04") (block "_01Z00_02E$AAU000AFF00_04")
    ∷ row 25 (block "_01Z00_02E$AbL000A0000_04") (block "_01Z00_02E$ABL000A0000_04")
    ∷ row 25 (block "_01Z00_02E$AAu000AFF00_04") (block "_01Z00_02E$AAU000AFF00_04")
    ∷ row 26 (block "_01Z00_02E$AAU0001FF00AAU0001FF00_04") (block "_01Z00_02E$aAU0001FF00AAU0001FF00_04")
    ∷ row 22 (block "_01Z00_02E!ff_04") (block "_01Z00_02E!FF_04")
    ∷ row 22 (block "_01Z00_02E!fF_04") (block "_01Z00_02E!00_04")
    ∷ row 9 (frame "_01c00_02E'S_04") (frame "_01C00_02E'S_04")
    -- stored records with small digits are not sound
    ∷ row 1 (holding 6 0x61) (holding 6 0x41)
    ∷ row 1 (holding 7 0x66) (holding 7 0x46)
    ∷ row 1 (holding 8 0x64) (holding 8 0x44)
    -- "Headers that differ only in this count as equal in joining": not those whose type codes do
    ∷ row 12 (both "_01c0f_02E'S_04" "_01C0f_02E'S_04") (both "_01C0f_02E'S_04" "_01C0F_02E'S_04")
    ∷ row 12 (both "_01CaB_02E'S_04" "_01Cac_02E'S_04") (both "_01CaB_02E'S_04" "_01CAb_02E'S_04")
    ∷ []

-- what is written, stored and replied
pub data Letter : Type 0 where
  writes : ℕ → String → ℕ → String → String → Letter  -- form, header, command, data; the result
  reforms : ℕ → String → String → Letter  -- form, frame; the result
  joins : ℕ → String → String → String → Letter  -- form, two frames; the result
  example : Example → Letter

abbrev pub Shows : Letter → Type 0
Shows (writes k h c d r) = result_of (write k (bytes h) c (bytes d) (zeros 100)) ≡ bytes r
Shows (reforms k f r) = result_of (reform k (bytes f) (zeros 100)) ≡ bytes r
Shows (joins k f g r) = result_of (join k (bytes f) (bytes g) (zeros 100)) ≡ bytes r
Shows (example e) = Says e

unfoldable pub letters_shown : List Letter
letters_shown =
    -- "capitals, as do the escapes, sums and header addresses we write": address characters only, in each form
    writes 1 "a1f,c?b" 0x45 "'S" "\0\0\0\0\0\u{1}a1F,c?B\u{2}E'S\u{4}"
    ∷ writes 2 "a1f,c?b" 0x45 "'S" "\0\0\0\0\0\u{1}a1F,c?B\u{2}E'S\u{3}00C4\u{4}"
    ∷ writes 3 "a1f,c?b" 0x45 "'S" "_01a1F,c?B_02E'S_0300C4_04"
    -- "block data are copied as received, and sums add the bytes as sent"
    ∷ reforms 3 "_01Z0a_02AAabcdef_0302dc_04" "_01Z0A_02AAabcdef_0302DC_04"
    ∷ reforms 1 "_01Z0a_02E$aAU000aff00_03_02E71f_04" "\0\0\0\0\0\u{1}Z0A\u{2}E$aAU000aff00\u{3}\u{2}E71f\u{4}"
    ∷ reforms 3 "_01Z00_02AA_c3_bc_04" "_01Z00_02AA_C3_BC_030206_04"
    -- the common header
    ∷ joins 3 "_01Zff,a0b_02E'S_04" "_01ZFF,a0B_02E'M_0300be_04" "_01ZFF,a0B_02E'S_0300C4_02E'M_0300BE_04"
    ∷ joins 3 "_01ZFF,a0B_02E'M_04" "_01Zff,a0b_02E'S_04" "_01ZFF,a0B_02E'M_0300BE_02E'S_0300C4_04"
    -- "What we store and reply stays in capitals"; a label is stored as sent
    ∷ example (stores 64 ("_01Z00_02E$aAU000aff8fbBL000b0000_04" ∷ []) "aAU000AFF8F\0\0\0\0\0\0\0\0\0\0bBL000B0000")
    ∷ example (replies 64 ("_01Z00_02E$aAU000afe8f_04" ∷ "_01Z00_02F$_04" ∷ [])
    "\0\0\0\0\0\0\0\0\0\0\0\0\0\0\0\0\0\0\0\0\u{1}000\u{2}E$aAU000AFE8F\u{3}033F\u{4}")
    ∷ example (numbers 64 ("_01Z00_02E7af_04" ∷ "_01ZAF_02E'S_04" ∷ []) 0)
    ∷ example (numbers 64 ("_01Z00_02E7af_04" ∷ "_01Zaf_02E'S_04" ∷ []) 0)
    -- a frame does the same with its header in capitals, on every board
    ∷ example (alike "_01Zaf,a?b_02AAHELLO_0301fb_04" "_01ZAF,a?B_02AAHELLO_0301FB_04")
    ∷ []
