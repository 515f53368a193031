-- Request 11, "First start of a new sign": where type "z" is taken and where not, each beside a neighbour, and what it leaves.
use Rattle.std.specs.Prelude.{ℕ, ◌≡◌, List, [], ◌∷◌, ℤ, pos, negsuc}
use Prim.Native.String.{String}
use Rattle.board.specs.Index.{entry}
use Rattle.board.specs.declared.Settings.{Settings}
use Rattle.sheet.specs.Sheet.{bytes, on_fresh, stores, replies}
use Rattle.cases.specs.Numbers.{Row, row, frames, writing, reforming, joining, E'S}
use Rattle.cases.specs.Witnesses.{Witness, counts, example, Shows}

-- a frame that starts a sign, and writes to one of its files
abbrev pub HELLO-Z : String
HELLO-Z = "_01z00_02AAHELLO_04"

-- the same as bytes, and one with a read
abbrev pub z : List ℕ
z = bytes HELLO-Z

abbrev pub z-read : List ℕ
z-read = bytes "_01z00_02BA_04"

unfoldable pub starts_table : List Row
starts_table =
    -- "28, memory below 4,186 bytes"
    row 28 (frames 4185 (z ∷ [])) (frames 4186 (z ∷ []))
    -- "straight after 9 in a run": 9 comes before it, and so does 8
    ∷ row 9 (frames 4185 (bytes "_01z01_02AAHELLO_04" ∷ [])) (frames 4186 (z ∷ []))
    ∷ row 8 (frames 4185 (bytes "_01z00_02BA_03_02BA_04" ∷ [])) (frames 4186 (z-read ∷ []))
    -- "its address must fit too"
    ∷ row 9 (frames 4186 (bytes "_01z0?_02AAHELLO_04" ∷ [])) (frames 4186 (z ∷ []))
    ∷ row 9 (frames 4186 (bytes "_01z??_02AAHELLO_04" ∷ [])) (frames 4186 (bytes "_01Z00_02E70A_04" ∷ bytes "_01z?a_02AAHELLO_04" ∷ []))
    -- "6 stays for "z" beside other pairs"
    ∷ row 6 (frames 4186 (bytes "_01z00,z00_02AAHELLO_04" ∷ [])) (frames 4186 (z ∷ []))
    ∷ row 6 (frames 4186 (bytes "_01z00,Z00_02AAHELLO_04" ∷ [])) (frames 4186 (bytes "_01Z00,Z00_02AAHELLO_04" ∷ []))
    ∷ row 6 (frames 4186 (bytes "_01Z00,z00_02AAHELLO_04" ∷ [])) (frames 4186 (bytes "_01Z00,Z00_02AAHELLO_04" ∷ []))
    ∷ row 6 (frames 4186 (bytes "_01z0G_02AAHELLO_04" ∷ [])) (frames 4186 (z ∷ []))
    -- "Re-forming and writing take it."
    ∷ row 6 (writing 2 (bytes "z00,z00") 0x41 (bytes "A") 32) (writing 2 (bytes "z00") 0x41 (bytes "A") 32)
    ∷ row 6 (reforming 2 (bytes "_01z00,Z00_02AA_04") 32) (reforming 2 (bytes "_01z00_02AA_04") 32)
    -- "19, joining a "z" header, straight after 12": 12 and what is before it come first, 13, 18 and 14 behind it
    ∷ row 19 (joining 1 z z 64) (joining 1 (bytes "_01Z00_02AAHELLO_04") (bytes "_01Z00_02AAHELLO_04") 64)
    ∷ row 19 (joining 1 (bytes "_01z0a_02AA_04") (bytes "_01z0A_02AA_04") 64) (joining 1 (bytes "_01Z0a_02AA_04") (bytes "_01Z0A_02AA_04") 64)
    ∷ row 12 (joining 1 z E'S 64) (joining 1 E'S E'S 64)
    ∷ row 12 (joining 1 z-read (bytes "_01z01_02AA_04") 64) (joining 1 E'S E'S 64)
    ∷ row 17 (joining 1 z (bytes "_01z00_02AAHELLO_0301FC_04") 64) (joining 1 E'S E'S 64)
    ∷ row 19 (joining 1 z-read z 64) (joining 1 E'S E'S 64)
    ∷ row 19 (joining 1 z z 0) (joining 1 E'S E'S 64)
    ∷ []

-- what is seen of a start; frames run on a fresh board
pub data Started : Type 0 where
  leaves : ℕ → List String → ℕ → ℕ → Started  -- memory, frames: the number of files and the unused amount then; the last frame's number is 0
  keeps : ℕ → List String → ℕ → ℕ → ℤ → ℕ → Started  -- memory, frames: minute, address, offset and register then
  begins : ℕ → List String → ℕ → ℕ → Started  -- memory, frames, a label: where its record begins then
  seen : Witness → Started

abbrev pub ShowsStart : Started → Type 0
ShowsStart (leaves n fs k u) = ((on_fresh n fs).number ≡ 0) × ((on_fresh n fs).after.settings.files ≡ k) × ((on_fresh n fs).after.settings.unused ≡ u)
ShowsStart (keeps n fs m a t r) =
    let s : Settings = (on_fresh n fs).after.settings in
    (s.minute ≡ m) × (s.address ≡ a) × (s.offset ≡ t) × (s.errors ≡ r)
ShowsStart (begins n fs label place) = entry (on_fresh n fs).after.settings.places label ≡ place
ShowsStart (seen w) = Shows w

unfoldable pub starts_shown : List Started
starts_shown =
    -- "files A to Z of 150 bytes each": 26 times 161 bytes
    leaves 4186 (HELLO-Z ∷ []) 26 0
    ∷ leaves 4187 (HELLO-Z ∷ []) 26 1
    ∷ begins 4186 (HELLO-Z ∷ []) 0x41 0
    ∷ begins 4186 (HELLO-Z ∷ []) 0x5A 4025
    ∷ begins 4186 (HELLO-Z ∷ []) 0x5B 0xFFFF
    -- "TEXT, unlocked, always shown (start FF, stop 00)", "and then runs the blocks"; starting is no block
    ∷ seen (counts 4186 (HELLO-Z ∷ []) 1 0 0 0)
    ∷ seen (example (stores 4186 (HELLO-Z ∷ []) "AAU0096FF00HELLO\0"))
    -- what was there before is gone, and a second start empties the files again
    ∷ leaves 4186 ("_01Z00_02E$1AU0001FF002BL00010000_04" ∷ HELLO-Z ∷ []) 26 0
    ∷ seen (example (stores 4186 (HELLO-Z ∷ "_01z00_02ABHELLO_04" ∷ []) "AAU0096FF00\0\0\0\0\0\0"))
    -- the files stay where every block is refused
    ∷ leaves 4186 ("_01z00_02A1HELLO_03_02D_04" ∷ []) 26 0
    ∷ seen (counts 4186 ("_01z00_02A1HELLO_03_02D_04" ∷ []) 0 2 1 23)
    -- a "$" that is done replaces them, one that is refused does not
    ∷ leaves 4186 ("_01z00_02E$1AU0001FF00_04" ∷ []) 1 4174
    ∷ leaves 4186 ("_01z00_02E$1AU0000FF002AU0001FF00_04" ∷ []) 26 0
    -- clock, address, offset and register stay; the blocks change them, and the blocks behind an E "7" run
    ∷ keeps 4186 ("_01Z00_02E 1234_03_02ET-2_03_02D_03_02E70A_04" ∷ HELLO-Z ∷ []) 34 0x0A (negsuc 1) 0x60
    ∷ keeps 4186 ("_01z00_02E70A_03_02E 1234_04" ∷ []) 34 0x0A (pos 0) 0x40
    ∷ seen (example (replies 4186 ("_01z00_02E70A_03_02F#_04" ∷ []) "\0\0\0\0\0\0\0\0\0\0\0\0\0\0\0\0\0\0\0\0\u{1}000\u{2}E#105A,0000\u{3}0230\u{4}"))
    ∷ []
