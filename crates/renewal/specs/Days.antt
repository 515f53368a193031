-- Request 6: "the weekday (1 Sunday to 7 Saturday; 1 January 2000 gives 7) and the days between two dates, negative when the second is earlier".
use Rattle.std.specs.Prelude.{ℕ, ◌+◌, ◌%◌, ◌&&◌, ℤ, pos, ◌-ℤ◌, if◌then◌else◌}
use Rattle.renewal.specs.Counting.{exists, day_number}
use Rattle.renewal.specs.declared.Date.{Date}
use Rattle.renewal.specs.declared.DayOfWeek.{DayOfWeek}
use Rattle.renewal.specs.declared.DaysApart.{DaysApart}

-- a number and a weekday
abbrev pub day_of_week : ℕ → ℕ → DayOfWeek
day_of_week n w = record { number = n; weekday = w }

-- day 0, 1 January 2000, is the seventh of its week
unfoldable pub weekday : Date → DayOfWeek
weekday d = if exists d then day_of_week 0 ((day_number d + 6) % 7 + 1) else day_of_week 30 0

-- a number and days
abbrev pub days_apart : ℕ → ℤ → DaysApart
days_apart n z = record { number = n; days = z }

-- from the first to the second
unfoldable pub days_between : Date → Date → DaysApart
days_between first second =
    if exists first && exists second
    then days_apart 0 (pos (day_number second) -ℤ pos (day_number first))
    else days_apart 30 (pos 0)
