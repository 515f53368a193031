-- For contracts of inner functions only: a form as it is put together piece by piece.
use Rattle.std.specs.Prelude.{ℕ, ◌+◌, ◌/◌, ◌%◌, ◌≤◌, ◌≡◌, Bool, true, false, List, [], ◌∷◌, ◌++◌, length, if◌then◌else◌}
use Rattle.std.proofs.lemmas.List.Edits.{sets}
use Rattle.octets.specs.Choice.{◌is◌}
use Rattle.octets.specs.Bytes.{SOH, STX, ETX}
use Rattle.octets.specs.Hex.{digit, in_hex4}
use Rattle.body.specs.Sum.{checksum}
use Rattle.body.specs.Body.{Block}
use Rattle.forms.specs.Forms.{nuls, escape}

-- a buffer has places for these bytes from a place on
pub record Takes (out : List ℕ) (at : ℕ) (bytes : List ℕ) : Type 0 where
  pub room : at + length bytes ≤ length out

-- bytes were put into a buffer from a place on, and the next place is answered
pub record Puts (out : List ℕ) (at : ℕ) (bytes after : List ℕ) (next : ℕ) : Type 0 where
  pub stored : after ≡ sets out at bytes
  pub moved : next ≡ at + length bytes

-- a byte in two digits
abbrev pub in_hex2 : ℕ → List ℕ
in_hex2 v = digit (v / 16) ∷ digit (v % 16) ∷ []

-- a list as a form carries it
unfoldable pub encode : ℕ → List ℕ → List ℕ
encode form l = if form is 3 then escape l else l

-- in the plain form ETX parts a block from the one before it
unfoldable pub parting : ℕ → Bool → List ℕ
parting form first = if form is 1 then (if first then [] else ETX ∷ []) else []

-- in the others ETX and the checksum end it
unfoldable pub ending : ℕ → ℕ → List ℕ
ending form v = if form is 1 then [] else ETX ∷ in_hex4 v

-- a block in a form
unfoldable pub piece : ℕ → Bool → ℕ → List ℕ → List ℕ
piece form first c d = parting form first ++ (STX ∷ c ∷ d ++ ending form (checksum c d))

-- blocks in a form
unfoldable pub pieces : ℕ → Bool → List Block → List ℕ
pieces form first [] = []
pieces form first (b ∷ bs) = piece form first b.command b.text ++ pieces form false bs

-- what stands before the blocks
unfoldable pub heading : ℕ → List ℕ → List ℕ
heading form h = nuls form ++ (SOH ∷ h)

-- the header and the blocks behind it
unfoldable pub headed : ℕ → List ℕ → List Block → List ℕ
headed form h bs = heading form h ++ pieces form true bs
