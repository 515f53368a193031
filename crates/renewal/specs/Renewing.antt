-- Request 6: "Give a permit's first date and a count of months, forward or back, and return the renewal date". Signed numbers are
-- written as in signed/specs/Floor: `negsuc y` is -(y + 1).
use Rattle.std.specs.Prelude.{ℕ, ◌+◌, Bool, false, ℤ, pos, negsuc, nat_abs, ◌+ℤ◌, if◌then◌else◌}
use Rattle.octets.specs.Choice.{◌≤?◌, between}
use Rattle.dates.specs.Calendar.{FIRST-YEAR, LAST-YEAR, month_length}
use Rattle.signed.specs.Floor.{floor_div, floor_mod}
use Rattle.renewal.specs.Counting.{date, exists, month_number}
use Rattle.renewal.specs.declared.Date.{Date}
use Rattle.renewal.specs.declared.Renewed.{Renewed}

-- "Counts run from -1,199 to 1,199.": at most 1,199 without the sign
unfoldable pub is_count : ℤ → Bool
is_count n = nat_abs n ≤? 1199

-- a number and a date
abbrev pub renewed : ℕ → Date → Renewed
renewed n d = record { number = n; date = d }

-- "all answer with zeros"
abbrev pub refused : ℕ → Renewed
refused n = renewed n (date 0 0 0)

-- the year and the month of a month counted from January 2000, which may lie before it
unfoldable pub year_of : ℤ → ℤ
year_of k = pos FIRST-YEAR +ℤ floor_div k

unfoldable pub month_of : ℤ → ℕ
month_of k = floor_mod k + 1

-- "2000 to 2099"
unfoldable pub is_year : ℤ → Bool
is_year (pos y) = between FIRST-YEAR LAST-YEAR y
is_year (negsuc y) = false

-- "same day of the month as the first date, or that month's last day if it is shorter"
unfoldable pub kept : ℕ → ℕ → ℕ → Renewed
kept y m d = let last : ℕ = month_length y m in renewed 0 (date y m (if d ≤? last then d else last))

-- 32 "for a result outside 2000 to 2099"
unfoldable pub reached : ℤ → ℕ → Renewed
reached k d = if is_year (year_of k) then kept (nat_abs (year_of k)) (month_of k) d else refused 32

-- 30 "for a date that does not exist", 31 "for a count outside its range"; "It is always reckoned from the first date"
unfoldable pub renewal_date : Date → ℤ → Renewed
renewal_date first n =
    if exists first
    then (if is_count n then reached (pos (month_number first) +ℤ n) first.day else refused 31)
    else refused 30
