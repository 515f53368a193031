-- Request 9: "A call adds the offset to a reading from -128 to 127 and returns the exact sum."
use Rattle.std.specs.Prelude.{ℕ, Bool, ℤ, pos, negsuc, ◌+ℤ◌, if◌then◌else◌}
use Rattle.signed.specs.Between.{from_to}
use Rattle.temperature.specs.Offset.{is_offset}
use Rattle.temperature.specs.declared.Corrected.{Corrected}

-- "a reading from -128 to 127"
unfoldable pub is_reading : ℤ → Bool
is_reading z = from_to (negsuc 127) (pos 127) z

-- a number and a sum
abbrev pub corrected : ℕ → ℤ → Corrected
corrected n z = record { number = n; sum = z }

-- "1 for an offset outside -9 to 9, from the call too; then 33 for a reading outside its range; in both the call answers 0"
unfoldable pub add_offset : ℤ → ℤ → Corrected
add_offset offset reading =
    if is_offset offset
    then (if is_reading reading then corrected 0 (reading +ℤ offset) else corrected 33 (pos 0))
    else corrected 1 (pos 0)
