-- "Three forms we write."
use Rattle.std.specs.Prelude.{ℕ, ◌/◌, ◌%◌, Bool, ◌&&◌, List, [], ◌∷◌, ◌++◌, if◌then◌else◌}
use Rattle.octets.specs.Choice.{◌is◌, ◌isn't◌, between}
use Rattle.octets.specs.Hex.{digit, in_hex4}
use Rattle.octets.specs.Buffer.{zeros}
use Rattle.octets.specs.Bytes.{SOH, STX, ETX, EOT, ESCAPE}
use Rattle.body.specs.Sum.{checksum}
use Rattle.body.specs.Body.{Block}

-- a block without its end, and what stands behind its data
abbrev pub opened : Block → List ℕ → List ℕ
opened b rest = STX ∷ b.command ∷ b.text ++ rest

-- "blocks parted by ETX, EOT straight after the last data": what stands behind a block's data
unfoldable pub plain_rest : List Block → List ℕ
plain_rest [] = EOT ∷ []
plain_rest (b ∷ bs) = ETX ∷ opened b (plain_rest bs)

-- and all of it
unfoldable pub plain_body : List Block → List ℕ
plain_body [] = EOT ∷ []
plain_body (b ∷ bs) = opened b (plain_rest bs)

-- "the same with ETX and checksum on each block"
unfoldable pub summed_body : List Block → List ℕ
summed_body [] = EOT ∷ []
summed_body (b ∷ bs) = opened b (ETX ∷ in_hex4 (checksum b.command b.text) ++ summed_body bs)

-- "five NUL", and in form 3 "without the NULs"
unfoldable pub nuls : ℕ → List ℕ
nuls form = if form is 3 then [] else zeros 5

-- form 1 is plain, 2 and 3 are summed
unfoldable pub body_in : ℕ → List Block → List ℕ
body_in form bs = if form is 1 then plain_body bs else summed_body bs

-- the translated bytes of a form: "five NUL, SOH, header, blocks"
unfoldable pub form_of : ℕ → List ℕ → List Block → List ℕ
form_of form h bs = nuls form ++ (SOH ∷ h ++ body_in form bs)

-- all bytes but those "below 20H, above 7EH and 5FH" stand for themselves
unfoldable pub is_itself : ℕ → Bool
is_itself x = between 0x20 0x7E x && x isn't ESCAPE

-- the others are written "as escapes"
abbrev pub escape_of : ℕ → List ℕ
escape_of x = ESCAPE ∷ digit (x / 16) ∷ digit (x % 16) ∷ []

-- "bytes below 20H, above 7EH and 5FH as escapes"
unfoldable pub escape : List ℕ → List ℕ
escape [] = []
escape (x ∷ t) =
    let r : List ℕ = escape t in
    if is_itself x then x ∷ r else escape_of x ++ r

-- the result: form 3 with "bytes below 20H, above 7EH and 5FH as escapes"
unfoldable pub render : ℕ → List ℕ → List Block → List ℕ
render form h bs = if form is 3 then escape (form_of form h bs) else form_of form h bs
