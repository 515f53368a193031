-- Document 01's "Sheet of examples": the starred ones, a single table, and what each of them says.
use Rattle.std.specs.Prelude.{ℕ, ◌≡◌, List, [], ◌∷◌, ◌++◌, map, length, take, drop, replicate}
use Prim.Native.Char.{code}
use Prim.Native.String.{String}
use Rattle.octets.specs.Choice.{◌!◌}
use Rattle.octets.specs.Buffer.{zeros}
use Rattle.body.specs.Sum.{checksum}
use Rattle.board.specs.Settings.{with_address}
use Rattle.board.specs.Board.{Board, with_settings}
use Rattle.effects.specs.Reply.{reply_room}
use Rattle.sign.specs.Run.{Outcome, untouched, run, next}
use Rattle.sign.specs.Fresh.{fresh}

-- a text as bytes
unfoldable pub bytes : String → List ℕ
bytes String.[] = []
bytes (String.◌∷◌ c t) = code c ∷ bytes t

-- a fresh board of type "C" with so much memory, and a reply buffer for it
unfoldable pub start : ℕ → Outcome
start n = let x = fresh 0x43 (zeros n) in untouched x.number x.made (zeros (reply_room x.made.memory))

-- frames run one after another: the outcome of the last
unfoldable pub in_turn : Outcome → List (List ℕ) → Outcome
in_turn x [] = x
in_turn x (f ∷ fs) = in_turn (next x f) fs

-- on such a board
unfoldable pub on_fresh : ℕ → List String → Outcome
on_fresh n fs = in_turn (start n) (map bytes fs)

-- a fresh board of 64 bytes at a serial address
unfoldable pub addressed_at : ℕ → Outcome
addressed_at a = let x = start 64 in untouched x.number (with_settings x.after (with_address x.after.settings a)) x.reply

-- an example, by what it speaks of
pub data Example : Type 0 where
  sums : List ℕ → ℕ → Example  -- a command byte with its data; its checksum
  numbers : ℕ → List String → ℕ → Example  -- memory, frames; the number of the last frame
  reaches : ℕ → String → ℕ → Example  -- serial address of a board, a frame; its number
  refuses : ℕ → List String → ℕ → ℕ → Example  -- memory, frames; place and number of the first block that the last frame has refused
  stores : ℕ → List String → String → Example  -- memory, frames; what memory starts with then
  replies : ℕ → List String → String → Example  -- memory, frames; the reply to the last frame
  alike : String → String → Example  -- two frames that do the same on every board

-- what it says
abbrev pub Says : Example → Type 0
Says (sums b n) = checksum (b ! 0) (drop 1 b) ≡ n
Says (numbers m fs n) = (on_fresh m fs).number ≡ n
Says (reaches a f n) = (next (addressed_at a) (bytes f)).number ≡ n
Says (refuses m fs p n) = ((on_fresh m fs).number ≡ 0) × ((on_fresh m fs).tally.place ≡ p) × ((on_fresh m fs).tally.reason ≡ n)
Says (stores m fs t) = take (length (bytes t)) (on_fresh m fs).after.memory ≡ bytes t
Says (replies m fs t) = take (on_fresh m fs).tally.length (on_fresh m fs).reply ≡ bytes t
Says (alike f g) = (b : Board) (o : List ℕ) → run b o (bytes f) ≡ run b o (bytes g)

-- every row of a table, by what a row says
abbrev pub Every : {X : Type 0} → (X → Type 0) → List X → Type 0
Every P [] = Unit {0}
Every P (x ∷ xs) = P x × Every P xs

-- the sheet
unfoldable pub table : List Example
table =
    -- Table 37: "AAHELLO" sums to 01FB. Table 38: E'S sums to 00C4. A, label A and 257 bytes FFH: sum 0086.
    sums (bytes "AAHELLO") 0x01FB
    ∷ sums (bytes "E'S") 0x00C4
    ∷ sums (bytes "AA" ++ replicate 257 0xFF) 0x0086
    -- Table 42: TEXT "C" holding "FILE C" replies with sum 020C. (To Table 41's frame, on a board at address 06.)
    ∷ replies 512
    ("_01Z00_02E$CAU0010FF00_03_02ACFILE C_03_02E706_04" ∷ "\0\0\0\0\0\u{1}Z06\u{2}BC\u{4}" ∷ [])
    "\0\0\0\0\0\0\0\0\0\0\0\0\0\0\0\0\0\0\0\0\u{1}000\u{2}ACFILE C\u{3}020C\u{4}"
    -- "AAU0010FF00SBL00080000" on 512 bytes: "#" gives 0200,01D2 and sum 0232.
    ∷ replies 512
    ("_01Z00_02E$AAU0010FF00SBL00080000_04" ∷ "_01Z00_02F#_04" ∷ [])
    "\0\0\0\0\0\0\0\0\0\0\0\0\0\0\0\0\0\0\0\0\u{1}000\u{2}E#0200,01D2\u{3}0232\u{4}"
    -- "AAU0000FF00" on 512 bytes is stored as 01F5. On 64 bytes SIZE 0035 fits; 0036 is 27.
    ∷ stores 512 ("_01Z00_02E$AAU0000FF00_04" ∷ []) "AAU01F5FF00"
    ∷ stores 64 ("_01Z00_02E$AAU0035FF00_04" ∷ []) "AAU0035FF00"
    ∷ refuses 64 ("_01Z00_02E$AAU0036FF00_04" ∷ []) 1 27
    -- Address 1F fits "1?"; 20 does not. Address 00 fits "00", not "0?" nor "??".
    ∷ reaches 0x1F "_01Z1?_02E'S_04" 0
    ∷ reaches 0x20 "_01Z1?_02E'S_04" 9
    ∷ reaches 0x00 "_01Z00_02E'S_04" 0
    ∷ reaches 0x00 "_01Z0?_02E'S_04" 9
    ∷ reaches 0x00 "_01Z??_02E'S_04" 9
    -- `_01Z00_02AAHELLO_04` does what Table 34's frame does. `_0a` is 5: since request 4 it "becomes a good escape", and the lead is wrong.
    ∷ alike "_01Z00_02AAHELLO_04" "\0\0\0\0\0\u{1}Z00\u{2}AAHELLO\u{4}"
    ∷ numbers 64 ("_0a" ∷ []) 4
    ∷ []
