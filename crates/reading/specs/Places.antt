-- Where a frame's header and blocks stand: what a reading answers, and what it leaves in the room that it is lent.
use Rattle.std.specs.Prelude.{ℕ, ◌+◌, ◌-◌, ◌≡◌, Bool, List, [], length, if◌then◌else◌, Result, Ok, Err}
use Rattle.octets.specs.Choice.{◌is◌, ◌<?◌, ◌!◌}
use Rattle.octets.specs.Bytes.{ESCAPE, PRINTABLE, TRANSLATED}
use Rattle.octets.specs.Buffer.{overlay}
use Rattle.reading.specs.Translation.{Translation, untranslated, translated, translate}
use Rattle.reading.specs.Lead.{Led, misled, led, lead_of}
use Rattle.reading.specs.Reading.{Reading, refused, frame, read}
use Rattle.reading.specs.declared.Read.{Read}
use Rattle.reading.specs.declared.Read.TheVariants.{Standard, Printable}
use Rattle.reading.specs.declared.Refusal.{Refusal}
use Rattle.reading.specs.declared.Refusal.TheVariants.{WrongLength, WrongLead, BadPrintable, BadHeader, BadBody, ReadNotLast}

-- the document's number of a refusal
abbrev pub number_of : Refusal → ℕ
number_of WrongLength = 3
number_of WrongLead = 4
number_of BadPrintable = 5
number_of BadHeader = 6
number_of BadBody = 7
number_of ReadNotLast = 8

-- an answer, its refusal told by the number
abbrev pub numbered : {A : Type 0} → Result A Refusal → Result A ℕ
numbered (Ok x) = Ok x
numbered (Err e) = Err (number_of e)

-- "5FH: printable"
abbrev pub is_printable : List ℕ → Bool
is_printable s = s ! 0 is ESCAPE

-- the bytes that a printable frame stands for; none where it has a fault
unfoldable pub bytes_of : Translation → List ℕ
bytes_of untranslated = []
bytes_of (translated t) = t

-- the bytes that a frame stands for
unfoldable pub stands_for : List ℕ → List ℕ
stands_for s = if is_printable s then bytes_of (translate s) else s

-- what stands behind a lead
unfoldable pub behind_lead : Led → List ℕ
behind_lead misled = []
behind_lead (led l) = l

-- where the header starts among such bytes: behind the lead
unfoldable pub header_in : Bool → List ℕ → ℕ
header_in printable t = length t - length (behind_lead (lead_of printable t))

unfoldable pub header_place : List ℕ → ℕ
header_place s = header_in (is_printable s) (stands_for s)

-- a refusal's number; or how many bytes there are (in the room, for a printable frame), where the header starts and where the first block does
unfoldable pub places_of : List ℕ → Reading → Result Read ℕ
places_of s (refused n) = Err n
places_of s (frame h bs) =
    if is_printable s then Ok (Printable (length (stands_for s)) (header_place s) (header_place s + length h))
    else Ok (Standard (header_place s) (header_place s + length h))

-- what a reading answers
unfoldable pub read_places : List ℕ → Result Read ℕ
read_places s = places_of s (read s)

-- what it answers without a room: to it the first byte of a printable frame is a wrong one
unfoldable pub bare_read : List ℕ → Result Read ℕ
bare_read s = if is_printable s then Err 4 else read_places s

-- the room afterwards: a printable frame's bytes at its start, where it has no fault and they fit; else as it was
unfoldable pub fill : List ℕ → Translation → List ℕ
fill room untranslated = room
fill room (translated t) = if TRANSLATED <? length t then room else overlay room t

unfoldable pub room_after : List ℕ → List ℕ → List ℕ
room_after s room =
    if is_printable s then (if PRINTABLE <? length s then room else fill room (translate s))
    else room

-- what a reading of s with a room promises: its answer, and the room after it
pub record Reads (s room : List ℕ) (answer : Result Read Refusal) (after : List ℕ) : Type 0 where
  pub places : numbered answer ≡ read_places s
  pub left : after ≡ room_after s room
