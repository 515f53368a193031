-- For contracts of inner functions only: what they need of a frame that was read, and what they answer.
use Rattle.std.specs.Prelude.{ℕ, ◌≤◌, ◌≡◌, Bool, true, ◌||◌, List, length, drop, Ok, if◌then◌else◌}
use Rattle.octets.specs.Choice.{◌is◌, ◌<?◌, all, part}
use Rattle.octets.specs.Bytes.{TRANSLATED, BLOCKS, is_plain}
use Rattle.header.specs.Header.{is_header}
use Rattle.body.specs.Body.{Block, blocks}
use Rattle.body.specs.InnerSurveying.{surveyed}
use Rattle.body.specs.Steps.{body_at}
use Rattle.reading.specs.declared.reading.Parts.{Parts}
use Rattle.forms.specs.InnerLengths.{block_escapes, form_length, render_length}
use Rattle.forms.specs.Forms.{render}
use Rattle.writing.specs.Output.{written_as, put_number}
use Rattle.writing.specs.declared.Written.{Written}

-- header text and body of a frame that was read: where they stand in its bytes, no more of them than a frame stands for, and what a walk over
-- its blocks tells
pub record Parted (s : List ℕ) (p : Parts) : Type 0 where
  pub good : body_at s p.body ≡ true
  pub short : length s ≤ TRANSLATED
  pub ordered : p.header ≤ p.body
  pub inside : p.body ≤ length s
  pub headed : is_header (part p.header p.body s) ≡ true
  pub seen : surveyed (blocks BLOCKS (drop p.body s)) ≡ Ok p.seen

-- a header text, a command and data that may be written
pub record Writable (h : List ℕ) (c : ℕ) (d : List ℕ) : Type 0 where
  pub header : is_header h ≡ true
  pub command : is_plain c ≡ true
  pub text : all is_plain d ≡ true

-- the escapes among blocks that a form needs to know
unfoldable pub escapes_in : ℕ → List Block → ℕ
escapes_in form bs = if form is 3 then block_escapes bs else 0

-- lengths and numbers of two frames at most
pub record Reckoned (h n t e : ℕ) : Type 0 where
  pub header : h ≤ 100000
  pub count : n ≤ 100000
  pub text : t ≤ 100000
  pub escapes : e ≤ 100000

-- "18, 14", or 0 and the result's length: by the length of the header, the number of blocks, the bytes of their data, the escapes among
-- them and the buffer's length
unfoldable pub fitted : ℕ → ℕ → ℕ → ℕ → ℕ → ℕ → Written
fitted form h n t e room =
    if BLOCKS <? n || TRANSLATED <? form_length form h n t then written_as 18 0
    else if room <? render_length form (form_length form h n t) n e then written_as 14 0
    else written_as 0 (render_length form (form_length form h n t) n e)

-- the same by the definitions: blocks under a header in a form, in so much room
unfoldable pub answered : ℕ → List ℕ → List Block → ℕ → Written
answered form h bs room =
    let n : ℕ = put_number form h bs room in
    if n is 0 then written_as 0 (length (render form h bs)) else written_as n 0
