-- Request 6, "Renewal dates that stay in their month.": what a renewal date is to its first date, over what the call promises.
use Rattle.std.specs.Prelude.{ℕ, ◌≤◌, ◌≡◌, true, ◌⊎◌, ℤ, pos, ◌+ℤ◌}
use Rattle.dates.specs.Calendar.{month_length}
use Rattle.renewal.specs.Counting.{exists, month_number}
use Rattle.renewal.specs.declared.Date.{Date}

-- the last day of its month
abbrev pub last_day : Date → ℕ
last_day d = month_length d.year d.month

-- a date that exists, so many months from the first; it has the first date's day or is its month's last, and is never past either
pub record Stays (first : Date) (n : ℤ) (result : Date) : Type 0 where
  pub there : exists result ≡ true
  pub months : pos (month_number result) ≡ pos (month_number first) +ℤ n
  pub day : (result.day ≡ first.day) ⊎ (result.day ≡ last_day result)
  pub by_first : result.day ≤ first.day
  pub by_last : result.day ≤ last_day result
