-- The result of a call that writes, re-forms or joins, and what it reads back as.
use Rattle.std.specs.Prelude.{◌≡◌, true, false, List, ◌++◌, ℕ, take}
use Rattle.octets.specs.Choice.{is_byte, all}
use Rattle.header.specs.Addressing.{starts}
use Rattle.header.specs.Capitals.{no_small}
use Rattle.body.specs.Body.{Block, has_read, all_right}
use Rattle.reading.specs.Reading.{frame, read}
use Rattle.reading.specs.Capitals.{in_capitals}
use Rattle.forms.specs.Forms.{render}
use Rattle.writing.specs.Output.{Output, is_over}

-- "The result starts the output buffer; .. its length is returned."
abbrev pub result_of : Output → List ℕ
result_of x = take x.answer.length x.out

-- the result is a form of a header in capitals and blocks within the limits; it is bytes, and reads as these, their sums right or none
pub record Carries (form : ℕ) (h : List ℕ) (bs : List Block) (x : Output) : Type 0 where
  pub bytes : result_of x ≡ render form h bs
  pub capital : no_small h ≡ true
  pub reads : read (result_of x) ≡ frame h bs
  pub right : all_right bs ≡ true
  pub small : all is_byte (result_of x) ≡ true
  pub within : is_over form h bs ≡ false

-- a frame reads, its header in capitals, as a header and blocks, their sums right or none
pub record Sure (s h : List ℕ) (bs : List Block) : Type 0 where
  pub reads : in_capitals (read s) ≡ frame h bs
  pub right : all_right bs ≡ true

-- the result of joining f and g: "the second frame's blocks after the first's under the common header", which is not of type "z"
pub record Joined (form : ℕ) (f g : List ℕ) (x : Output) : Type 0 where
  pub header : List ℕ
  pub first : List Block
  pub second : List Block
  pub one : Sure f header first
  pub other : Sure g header second
  pub ordinary : starts header ≡ false
  pub calm : has_read first ≡ false
  pub result : Carries form header (first ++ second) x
