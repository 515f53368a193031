-- Request 9, Set Temperature Offset: "a sign and one digit 0 to 9, so -9 to 9". Signed numbers are written as in signed/specs/Floor:
-- `negsuc 8` is -9.
use Rattle.std.specs.Prelude.{ℕ, ◌-◌, Bool, ◌&&◌, ◌||◌, List, length, ℤ, pos, negsuc, neg_ℤ, if◌then◌else◌}
use Rattle.octets.specs.Choice.{◌is◌, ◌!◌}
use Rattle.octets.specs.Decimal.{is_decimal}
use Rattle.signed.specs.Between.{from_to}

-- "+"
abbrev pub PLUS : ℕ
PLUS = 0x2B

-- "-"
abbrev pub MINUS : ℕ
MINUS = 0x2D

-- "a sign and one digit 0 to 9"
unfoldable pub is_signed_digit : List ℕ → Bool
is_signed_digit d = length d is 2 && ((d ! 0 is PLUS || d ! 0 is MINUS) && is_decimal (d ! 1))

-- the number of a sign and a digit: ""-0" and "+0" store the same offset."
unfoldable pub signed_digit : ℕ → ℕ → ℤ
signed_digit sign digit = let n : ℤ = pos (digit - 0x30) in if sign is MINUS then neg_ℤ n else n

-- "-9 to 9"
unfoldable pub is_offset : ℤ → Bool
is_offset z = from_to (negsuc 8) (pos 9) z
