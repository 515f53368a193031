-- "floor division and remainder by 12 with negative counts". A signed number is `pos n`, which is n, or `negsuc n`, which is -(n + 1).
use Rattle.std.specs.Prelude.{ℕ, ◌-◌, ◌/◌, ◌%◌, ℤ, pos, negsuc}

-- the quotient by twelve, rounded down: -1 to -12 give -1
unfoldable pub floor_div : ℤ → ℤ
floor_div (pos n) = pos (n / 12)
floor_div (negsuc n) = negsuc (n / 12)

-- what that leaves, 0 to 11: -1 leaves 11, -12 leaves 0
unfoldable pub floor_mod : ℤ → ℕ
floor_mod (pos n) = n % 12
floor_mod (negsuc n) = 11 - n % 12
