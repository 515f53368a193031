-- The reply to a read.
use Rattle.std.specs.Prelude.{ℕ, ◌+◌, List, [], ◌∷◌, ◌++◌, length}
use Rattle.octets.specs.Hex.{in_hex4}
use Rattle.octets.specs.Buffer.{zeros}
use Rattle.octets.specs.Bytes.{SOH, EOT, ZERO}
use Rattle.body.specs.Sum.{summed, checksum}

-- "A reply is 20 NUL, SOH, "000", STX, the write code (A, G or E), label, data, ETX, checksum, EOT."
unfoldable pub reply_of : ℕ → ℕ → List ℕ → List ℕ
reply_of code label d =
    zeros 20 ++ (SOH ∷ ZERO ∷ ZERO ∷ ZERO ∷ []) ++ summed code (label ∷ d) ++ in_hex4 (checksum code (label ∷ d)) ++ (EOT ∷ [])

-- what a run asks of its reply buffer, whatever the frame: "memory plus 64"
unfoldable pub reply_room : List ℕ → ℕ
reply_room m = length m + 64
