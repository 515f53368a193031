-- Request 6, "Renewal dates that stay in their month.": renewal dates, weekdays and days between dates, each with its whole answer;
-- each number beside a neighbour that answers 0.
use Rattle.std.specs.Prelude.{ℕ, ◌≡◌, List, [], ◌∷◌, ℤ, pos, neg_ℤ}
use Rattle.renewal.specs.Counting.{date}
use Rattle.renewal.specs.Renewing.{renewed, refused, renewal_date}
use Rattle.renewal.specs.Days.{day_of_week, weekday, days_apart, days_between}
use Rattle.renewal.specs.declared.Date.{Date}
use Rattle.renewal.specs.declared.Renewed.{Renewed}

-- a call and what it answers
pub data Reckoned : Type 0 where
  renews : Date → ℤ → Renewed → Reckoned  -- first date, months
  falls : Date → ℕ → ℕ → Reckoned  -- number, weekday
  apart : Date → Date → ℕ → ℤ → Reckoned  -- number, days

abbrev pub Answers : Reckoned → Type 0
Answers (renews d n r) = renewal_date d n ≡ r
Answers (falls d n w) = weekday d ≡ day_of_week n w
Answers (apart a b n z) = days_between a b ≡ days_apart n z

-- so many on
abbrev pub on : ℕ → ℤ
on n = pos n

-- and so many back
abbrev pub back : ℕ → ℤ
back n = neg_ℤ (pos n)

-- a date that is answered
abbrev pub gives : ℕ → ℕ → ℕ → Renewed
gives y m d = renewed 0 (date y m d)

unfoldable pub renewals_table : List Reckoned
renewals_table =
    -- "so 31 January gives 28 February in 2001 and then 31 March": by 1 and by 2, both from the first date
    renews (date 2001 1 31) (on 1) (gives 2001 2 28)
    ∷ renews (date 2001 1 31) (on 2) (gives 2001 3 31)
    -- reckoned from the renewal date instead it would be 28 March
    ∷ renews (date 2001 2 28) (on 1) (gives 2001 3 28)
    ∷ renews (date 2001 1 31) (on 0) (gives 2001 1 31)
    -- on days 1 to 28 one count after the other is their sum
    ∷ renews (date 2001 1 28) (on 13) (gives 2002 2 28)
    ∷ renews (date 2002 2 28) (back 2) (gives 2001 12 28)
    ∷ renews (date 2001 1 28) (on 11) (gives 2001 12 28)
    -- leap years
    ∷ renews (date 2000 1 31) (on 1) (gives 2000 2 29)
    ∷ renews (date 2004 2 29) (on 12) (gives 2005 2 28)
    ∷ renews (date 2004 2 29) (on 48) (gives 2008 2 29)
    -- back, within a year and over its beginning, where a division that rounds toward zero goes wrong
    ∷ renews (date 2001 3 31) (back 1) (gives 2001 2 28)
    ∷ renews (date 2001 1 31) (back 1) (gives 2000 12 31)
    ∷ renews (date 2001 1 31) (back 11) (gives 2000 2 29)
    ∷ renews (date 2001 1 31) (back 12) (gives 2000 1 31)
    -- 32: a month before January 2000, twelve before it, and one behind December 2099
    ∷ renews (date 2001 1 31) (back 13) (refused 32)
    ∷ renews (date 2000 1 1) (back 12) (refused 32)
    ∷ renews (date 2099 12 31) (on 1) (refused 32)
    ∷ renews (date 2099 11 30) (on 1) (gives 2099 12 30)
    -- 31: "Counts run from -1,199 to 1,199."
    ∷ renews (date 2000 1 31) (on 1199) (gives 2099 12 31)
    ∷ renews (date 2000 1 31) (on 1200) (refused 31)
    ∷ renews (date 2099 12 31) (back 1199) (gives 2000 1 31)
    ∷ renews (date 2099 12 31) (back 1200) (refused 31)
    -- 30: dates that do not exist
    ∷ renews (date 2001 2 29) (on 1) (refused 30)
    ∷ renews (date 1999 12 31) (on 1) (refused 30)
    ∷ renews (date 2100 1 1) (back 1) (refused 30)
    ∷ renews (date 2001 13 1) (on 0) (refused 30)
    ∷ renews (date 2001 1 0) (on 0) (refused 30)
    -- "in that order"
    ∷ renews (date 2001 2 29) (on 1200) (refused 30)
    ∷ renews (date 2000 1 1) (back 1200) (refused 31)
    -- "1 January 2000 gives 7"
    ∷ falls (date 2000 1 1) 0 7
    ∷ falls (date 2000 1 2) 0 1
    ∷ falls (date 2000 2 29) 0 3
    ∷ falls (date 2099 12 31) 0 5
    ∷ falls (date 2100 1 1) 30 0
    -- "negative when the second is earlier"
    ∷ apart (date 2000 1 1) (date 2099 12 31) 0 (on 36524)
    ∷ apart (date 2099 12 31) (date 2000 1 1) 0 (back 36524)
    ∷ apart (date 2004 2 28) (date 2004 3 1) 0 (on 2)
    ∷ apart (date 2005 2 28) (date 2005 3 1) 0 (on 1)
    ∷ apart (date 2005 3 1) (date 2005 3 1) 0 (on 0)
    ∷ apart (date 2005 2 29) (date 2005 3 1) 30 (on 0)
    ∷ apart (date 2005 3 1) (date 2005 2 29) 30 (on 0)
    ∷ []
