-- Request 6: months and days counted from 1 January 2000.
use Rattle.std.specs.Prelude.{ℕ, zero, suc, ◌+◌, ◌*◌, ◌-◌, ◌/◌, ◌%◌, Bool}
use Rattle.dates.specs.Calendar.{FIRST-YEAR, month_length, is_date}
use Rattle.renewal.specs.declared.Date.{Date}

-- a date: year in full, month, day
abbrev pub date : ℕ → ℕ → ℕ → Date
date y m d = record { year = y; month = m; day = d }

-- a date that exists, as request 1 has it
unfoldable pub exists : Date → Bool
exists d = is_date d.year d.month d.day

-- its month, January 2000 being 0
unfoldable pub month_number : Date → ℕ
month_number d = (d.year - FIRST-YEAR) * 12 + (d.month - 1)

-- the length of a month so counted
unfoldable pub length_of : ℕ → ℕ
length_of k = month_length (FIRST-YEAR + k / 12) (k % 12 + 1)

-- "for each of the 1,200 months, the days before its first since 1 January 2000"
unfoldable pub days_before : ℕ → ℕ
days_before zero = 0
days_before (suc k) = days_before k + length_of k

-- the days from 1 January 2000 to a date
unfoldable pub day_number : Date → ℕ
day_number d = days_before (month_number d) + (d.day - 1)
