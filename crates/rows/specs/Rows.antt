-- Request 2, command I: what the text behind the height and the width means, for a picture of h rows and w columns.
-- "1 to 31 rows, 1 to 255 columns": that those sent are the picture's own is the command's to say; here they are any two numbers.
use Rattle.std.specs.Prelude.{ℕ, zero, suc, ◌-◌, Bool, ◌&&◌, List, [], ◌∷◌, ◌++◌, drop, if◌then◌else◌}
use Rattle.octets.specs.Choice.{◌is◌, ◌isn't◌, between, none, front, behind, all}
use Rattle.octets.specs.Bytes.{ZERO}

-- a line feed
abbrev pub LF : ℕ
LF = 0x0A

-- a carriage return
abbrev pub CR : ℕ
CR = 0x0D

-- "line feeds dropped"
unfoldable pub without_feeds : List ℕ → List ℕ
without_feeds [] = []
without_feeds (x ∷ l) = let r : List ℕ = without_feeds l in if x is LF then r else x ∷ r

-- "A row's text ends at CR": any other byte belongs to it
unfoldable pub not_end : ℕ → Bool
not_end x = x isn't CR

-- the first row's text; "the last CR may be absent", so it also ends where the text does
unfoldable pub row_text : List ℕ → List ℕ
row_text l = front not_end l

-- the texts of the rows behind it, behind its CR
unfoldable pub next_text : List ℕ → List ℕ
next_text l = drop 1 (behind not_end l)

-- "pixel characters "0" to "8" whatever the colour status"
unfoldable pub is_pixel : ℕ → Bool
is_pixel x = between ZERO 0x38 x

-- a text without line feeds is one of h rows: "other bytes, and any but line feeds past the last row's CR, are malformed"
unfoldable pub well_formed : ℕ → List ℕ → Bool
well_formed zero l = none l
well_formed (suc h) l = all is_pixel (row_text l) && well_formed h (next_text l)

-- the w pixels of a row's text: "short rows filled with "0", extra pixel characters ignored"; each is its character's number
unfoldable pub row : ℕ → List ℕ → List ℕ
row zero t = []
row (suc w) [] = 0 ∷ row w []
row (suc w) (x ∷ t) = (x - ZERO) ∷ row w t

-- the pixels of h rows, "rows one after another"; "Missing rows are off": they have no text
unfoldable pub drawn : ℕ → ℕ → List ℕ → List ℕ
drawn zero w l = []
drawn (suc h) w l = row w (row_text l) ++ drawn h w (next_text l)

-- what a text can mean: it is "malformed", or it is a picture's pixels
pub data Meaning : Type 0 where
  malformed : Meaning
  picture : List ℕ → Meaning

-- what the text means
unfoldable pub meaning : ℕ → ℕ → List ℕ → Meaning
meaning h w text = let l : List ℕ = without_feeds text in if well_formed h l then picture (drawn h w l) else malformed
