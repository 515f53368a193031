-- For contracts of inner functions only: the sum or the refusal, and what is answered of it.
use Rattle.std.specs.Prelude.{ℕ, ℤ, pos, Result, Ok, Err}
use Rattle.temperature.specs.Correcting.{corrected}
use Rattle.temperature.specs.declared.Corrected.{Corrected}
use Rattle.temperature.specs.declared.numbers.Refusal.{Refusal}
use Rattle.temperature.specs.declared.numbers.Refusal.TheVariants.{OffsetOutside, ReadingOutside}

-- "1 for an offset outside -9 to 9, from the call too; then 33 for a reading outside its range"
abbrev pub number : Refusal → ℕ
number OffsetOutside = 1
number ReadingOutside = 33

-- a sum, or a number; "in both the call answers 0"
abbrev pub told : Result ℤ Refusal → Corrected
told (Ok z) = corrected 0 z
told (Err e) = corrected (number e) (pos 0)
