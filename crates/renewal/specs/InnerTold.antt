-- For contracts of inner functions only: a renewal date or its refusal, and what is answered of it.
use Rattle.std.specs.Prelude.{ℕ, Result, Ok, Err}
use Rattle.renewal.specs.Renewing.{renewed, refused}
use Rattle.renewal.specs.declared.Date.{Date}
use Rattle.renewal.specs.declared.Renewed.{Renewed}
use Rattle.renewal.specs.declared.numbers.Refusal.{Refusal}
use Rattle.renewal.specs.declared.numbers.Refusal.TheVariants.{NoDate, CountOutside, ResultOutside}

-- 30 "for a date that does not exist", 31 "for a count outside its range", 32 "for a result outside 2000 to 2099"
abbrev pub number : Refusal → ℕ
number NoDate = 30
number CountOutside = 31
number ResultOutside = 32

-- a date with 0, or a number; "all answer with zeros"
abbrev pub told : Result Date Refusal → Renewed
told (Ok d) = renewed 0 d
told (Err e) = refused (number e)
