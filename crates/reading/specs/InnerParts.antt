-- For contracts of inner functions only: what the parts of a reading answer, by the definitions.
use Rattle.std.specs.Prelude.{ℕ, ◌+◌, ◌-◌, ◌≡◌, Bool, true, false, ◌&&◌, ◌||◌, List, [], ◌∷◌, length, if◌then◌else◌, Option, Some, None, Result, Ok, Err}
use Rattle.octets.specs.Choice.{◌is◌, ◌isn't◌, ◌<?◌, between, front, part}
use Rattle.octets.specs.InnerEqual.{differs}
use Rattle.octets.specs.Bytes.{ESCAPE, PRINTABLE, TRANSLATED}
use Rattle.octets.specs.Carried.{is_carried2}
use Rattle.body.specs.Body.{has_read, all_right}
use Rattle.body.specs.InnerSurveying.{survey_as, text_bytes}
use Rattle.body.specs.Steps.{blocks_at}
use Rattle.reading.specs.Translation.{Translation, untranslated, translated, translate}
use Rattle.reading.specs.Lead.{Led, misled, led}
use Rattle.reading.specs.Reading.{Reading, refused, frame}
use Rattle.reading.specs.Places.{number_of, numbered, header_in, room_after}
use Rattle.reading.specs.declared.Refusal.{Refusal}
use Rattle.reading.specs.declared.reading.Parts.{Parts}

-- a byte of a printable text may stand before others: "20H to 7EH", and before two digits where it is "_"
unfoldable pub may_stand : ℕ → List ℕ → Bool
may_stand x l = between 0x20 0x7E x && (x isn't ESCAPE || is_carried2 l)

-- every byte of a text may stand where it does
unfoldable pub all_stand : List ℕ → Bool
all_stand [] = true
all_stand (x ∷ l) = may_stand x l && all_stand l

-- "_"
abbrev pub is_mark : ℕ → Bool
is_mark x = x is ESCAPE

-- the bytes up to the next "_"
abbrev pub unmarked : List ℕ → List ℕ
unmarked l = front (differs ESCAPE) l

-- how many bytes a translation has
unfoldable pub counted : Translation → Option ℕ
counted untranslated = None
counted (translated t) = Some (length t)

-- a translation without a fault
unfoldable pub is_whole : Translation → Bool
is_whole untranslated = false
is_whole (translated t) = true

-- where a lead of t ends
unfoldable pub lead_end : List ℕ → Led → Option ℕ
lead_end t misled = None
lead_end t (led l) = Some (length t - length l)

-- where the body starts, of a header that starts at a place, and what is known of the blocks
unfoldable pub parts_at : ℕ → Reading → Result Parts ℕ
parts_at at (refused n) = Err n
parts_at at (frame h bs) =
    Ok (record { header = at; body = at + length h; seen = survey_as (has_read bs) (all_right bs) (length bs) (text_bytes bs) })

-- the same of the bytes t
abbrev pub part_places : Bool → List ℕ → Reading → Result Parts ℕ
part_places printable t r = parts_at (header_in printable t) r

-- 5, 3, or how many bytes a translation has
unfoldable pub translated_length : Translation → Result ℕ ℕ
translated_length untranslated = Err 5
translated_length (translated t) = if TRANSLATED <? length t then Err 3 else Ok (length t)

-- what the translation of a printable frame into a room answers, and the room after it
pub record Translates (s room : List ℕ) (answer : Result ℕ Refusal) (after : List ℕ) : Type 0 where
  pub told : numbered answer ≡ (if PRINTABLE <? length s then Err 3 else translated_length (translate s))
  pub left : after ≡ room_after s room

-- what parts say of the bytes t, without places
unfoldable pub parts_view : List ℕ → Result Parts Refusal → Reading
parts_view t (Err e) = refused (number_of e)
parts_view t (Ok p) = frame (part p.header p.body t) (blocks_at t p.body)
