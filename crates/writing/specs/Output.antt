-- What a call that writes a form answers, and what it leaves in the output buffer.
use Rattle.std.specs.Prelude.{ℕ, Bool, ◌||◌, List, length, if◌then◌else◌}
use Rattle.octets.specs.Choice.{◌is◌, ◌<?◌, between}
use Rattle.octets.specs.Buffer.{overlay}
use Rattle.octets.specs.Bytes.{TRANSLATED, BLOCKS}
use Rattle.body.specs.Body.{Block}
use Rattle.forms.specs.Forms.{form_of, render}
use Rattle.writing.specs.declared.Written.{Written}

-- "form not 1, 2 or 3" is 15
abbrev pub is_form : ℕ → Bool
is_form form = between 1 3 form

-- "result over 8,192 translated bytes or 64 blocks" is 18
unfoldable pub is_over : ℕ → List ℕ → List Block → Bool
is_over form h bs = BLOCKS <? length bs || TRANSLATED <? length (form_of form h bs)

-- what a call answers, and the output buffer after it
pub record Output : Type 0 where
  pub answer : Written
  pub out : List ℕ

-- an answer beside a buffer
abbrev pub output : Written → List ℕ → Output
output r o = record { answer = r; out = o }

-- an answer's number and length
abbrev pub written_as : ℕ → ℕ → Written
written_as n k = record { number = n; length = k }

-- number, length, output buffer
abbrev pub output_as : ℕ → ℕ → List ℕ → Output
output_as n k o = output (written_as n k) o

-- "output .. untouched, length 0"
abbrev pub unwritten : ℕ → List ℕ → Output
unwritten n o = output_as n 0 o

-- "The result starts the output buffer; the rest of it is untouched; its length is returned."
abbrev pub delivered : List ℕ → List ℕ → Output
delivered result o = output_as 0 (length result) (overlay o result)

-- "18, 14" for blocks under a header in a form, in so much room: 14 "output buffer too short"; 0 where they are put
unfoldable pub put_number : ℕ → List ℕ → List Block → ℕ → ℕ
put_number form h bs room = if is_over form h bs then 18 else if room <? length (render form h bs) then 14 else 0

-- refused, or the result
unfoldable pub put : ℕ → List ℕ → List Block → List ℕ → Output
put form h bs o =
    let n : ℕ = put_number form h bs (length o) in
    if n is 0 then delivered (render form h bs) o else unwritten n o
