-- What a record's type asks of its SIZE and its QQQQ.
use Rattle.std.specs.Prelude.{ℕ, Bool, false, ◌&&◌, ◌||◌, List, drop, if◌then◌else◌}
use Rattle.octets.specs.Choice.{◌is◌, ◌≤?◌, between, ◌!◌}
use Rattle.octets.specs.Hex.{is_hex2, hex2}
use Rattle.octets.specs.Bytes.{ZERO}
use Rattle.board.specs.Files.{TEXT, STRING}

-- the kind of a file, by T of its record: "T: "A" TEXT, "B" STRING."; any other byte is none
pub data Kind : Type 0 where
  text string neither : Kind

unfoldable pub kind_of : ℕ → Kind
kind_of t = if t is TEXT then text else if t is STRING then string else neither

-- "SIZE: .. not 0000 in memory; a STRING's is 1 to 125"; the test says whether a TEXT's may be 0000
unfoldable pub is_size_of : Kind → Bool → ℕ → Bool
is_size_of text zero_too n = zero_too || 1 ≤? n
is_size_of string zero_too n = between 1 125 n
is_size_of neither zero_too n = false

-- "a start code 00 to 8F, FD, FE or FF"
unfoldable pub is_start_code : List ℕ → Bool
is_start_code l = is_hex2 l && (hex2 l ≤? 0x8F || 0xFD ≤? hex2 l)

-- "a stop code 00 to 8F"
unfoldable pub is_stop_code : List ℕ → Bool
is_stop_code l = is_hex2 l && hex2 l ≤? 0x8F

-- "QQQQ: for TEXT a start code .. and a stop code 00 to 8F; for STRING "0000"."
unfoldable pub is_codes_of : Kind → List ℕ → Bool
is_codes_of text q = is_start_code q && is_stop_code (drop 2 q)
is_codes_of string q = q ! 0 is ZERO && (q ! 1 is ZERO && (q ! 2 is ZERO && q ! 3 is ZERO))
is_codes_of neither q = false
