-- For contracts of inner functions only: a refusal's number, and what C is told.
use Rattle.std.specs.Prelude.{ℕ, Result, Ok, Err}
use Rattle.reading.specs.Places.{number_of as fault_number}
use Rattle.writing.specs.declared.Written.{Written}
use Rattle.writing.specs.declared.refusal.Refusal.{Refusal}
use Rattle.writing.specs.declared.refusal.Refusal.TheVariants.{Unread, HeadersDiffer, FirstHasRead, NoRoom, WrongForm, ByteTooLow, WrongSum, TooLong, StartJoined}
use Rattle.writing.specs.Output.{written_as}

-- the document's number of a refusal
abbrev pub number_of : Refusal → ℕ
number_of (Unread e) = fault_number e
number_of HeadersDiffer = 12
number_of FirstHasRead = 13
number_of NoRoom = 14
number_of WrongForm = 15
number_of ByteTooLow = 16
number_of WrongSum = 17
number_of TooLong = 18
number_of StartJoined = 19

-- 0 and the length of the result; or the number, and "length 0"
abbrev pub told : Result ℕ Refusal → Written
told (Ok n) = written_as 0 n
told (Err e) = written_as (number_of e) 0
