-- How a frame reads: a header text and blocks, or a refusal with its number.
-- "empty (3), first byte (4), raw length (3), 5, translated length (3), lead (4), 6, 7, 8": from the last back to the first.
use Rattle.std.specs.Prelude.{ℕ, Bool, true, false, not, ◌||◌, List, length, if◌then◌else◌}
use Rattle.octets.specs.Choice.{◌is◌, ◌isn't◌, ◌<?◌, ◌!◌, none, front, behind}
use Rattle.octets.specs.Bytes.{NUL, SOH, STX, ESCAPE, STANDARD, PRINTABLE, TRANSLATED, BLOCKS}
use Rattle.reading.specs.Translation.{Translation, untranslated, translated, translate}
use Rattle.reading.specs.Lead.{Led, misled, led, lead_of}
use Rattle.header.specs.Header.{is_header}
use Rattle.body.specs.Body.{Block, Body, bad_body, body, blocks, read_not_last}

-- a number from 3 to 8; or a header text and the blocks
pub data Reading : Type 0 where
  refused : ℕ → Reading
  frame : List ℕ → List Block → Reading

-- "up to the first block's STX"
unfoldable pub not_stx : ℕ → Bool
not_stx x = x isn't STX

-- 7 "bad body", 8 "a read that is not last"
unfoldable pub read_body : List ℕ → Body → Reading
read_body h bad_body = refused 7
read_body h (body bs) = if read_not_last false bs then refused 8 else frame h bs

-- 6 "bad header", and since request 11 "z" beside other pairs: the text before the first STX, and the bytes from it on; "with no such STX the header is bad"
unfoldable pub read_header : List ℕ → List ℕ → Reading
read_header h b = if none b then refused 6 else if not (is_header h) then refused 6 else read_body h (blocks BLOCKS b)

-- 4 "wrong .. lead"
unfoldable pub read_led : Led → Reading
read_led misled = refused 4
read_led (led l) = read_header (front not_stx l) (behind not_stx l)

-- 5 "bad escape or byte outside 20H to 7EH", 3 "over 8,192 translated"
unfoldable pub read_translated : Translation → Reading
read_translated untranslated = refused 5
read_translated (translated t) = if TRANSLATED <? length t then refused 3 else read_led (lead_of true t)

-- 3 "over .. 24,576 printable"
unfoldable pub read_printable : List ℕ → Reading
read_printable s = if PRINTABLE <? length s then refused 3 else read_translated (translate s)

-- 3 "over 8,192 bytes standard"
unfoldable pub read_standard : List ℕ → Reading
read_standard s = if STANDARD <? length s then refused 3 else read_led (lead_of false s)

-- 3 "input empty", 4 "wrong first byte": "First byte 00H or 01H: standard. 5FH: printable"
unfoldable pub read : List ℕ → Reading
read s =
    if none s then refused 3
    else if s ! 0 is NUL || s ! 0 is SOH then read_standard s
    else if s ! 0 is ESCAPE then read_printable s
    else refused 4
