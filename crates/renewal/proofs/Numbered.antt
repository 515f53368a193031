-- Months and days counted from 1 January 2000: each date has its own number, and the numbers go up day by day.
use Prim.Native.Nat.{ℕ, zero, suc, ◌+◌, ◌/◌, ◌%◌, ◌<◌, ◌≤◌}
use mathlib.Core.Path.{◌≡◌, refl, sym, ap, ap₂, ◌∙◌}
use mathlib.Core.Bool.{Bool, true}
use native.Mathlib.Omega.{arith}
use borrow.Author.Tests.{lt-ltb, le-ltb, eqb-true, eqb-false}
use Rattle.octets.specs.Choice.{◌is◌, ◌<?◌}
use Rattle.octets.proofs.Tests.{compare, choice}
use Rattle.dates.specs.Calendar.{FIRST-YEAR, LAST-YEAR, february, month_length}
use Rattle.dates.proofs.Bounds.{year-first, date-year, some-month, date-month, some-day, day-inside}
use Rattle.renewal.specs.Counting.{date, exists, month_number, length_of, days_before, day_number}
use Rattle.renewal.specs.Order.{is_earlier}
use Rattle.renewal.specs.declared.Date.{Date}

-- year and month of a month counted from January 2000
abbrev pub year_at : ℕ → ℕ
year_at k = FIRST-YEAR + k / 12

abbrev pub month_at : ℕ → ℕ
month_at k = k % 12 + 1

pub number_of : (k d : ℕ) → month_number (date (year_at k) (month_at k) d) ≡ k
unfolding month_number
number_of k d = omega arith

-- later months have more days before them
before-grows : (k j : ℕ) → j ≤ k → days_before j ≤ days_before k
unfolding days_before
before-grows zero j h = let z : j ≡ 0 = omega arith in rw z (omega arith)
before-grows (suc k) j h =
    compare j (suc k) (λ l. omega (arith, before-grows k j (omega arith))) (λ l. let z : j ≡ suc k = omega arith in rw z (omega arith))

-- a date that exists
module _ (d : Date) (e : exists d ≡ true) where
  pub from-year : FIRST-YEAR ≤ d.year
  unfolding exists
  from-year = year-first d.year d.month d.day e

  pub to-year : d.year ≤ LAST-YEAR
  unfolding exists
  to-year = date-year d.year d.month d.day e

  pub from-month : 1 ≤ d.month
  unfolding exists
  from-month = some-month d.year d.month d.day e

  pub to-month : d.month ≤ 12
  unfolding exists
  to-month = date-month d.year d.month d.day e

  pub from-day : 1 ≤ d.day
  unfolding exists
  from-day = some-day d.year d.month d.day e

  pub to-day : d.day ≤ month_length d.year d.month
  unfolding exists
  to-day = day-inside d.year d.month d.day e

  pub month-below : month_number d < 1200
  unfolding month_number
  month-below = omega (arith, from-year, to-year, from-month, to-month)

  year-is : year_at (month_number d) ≡ d.year
  unfolding month_number
  year-is = omega (arith, from-year, from-month, to-month)

  month-is : month_at (month_number d) ≡ d.month
  unfolding month_number
  month-is = omega (arith, from-month, to-month)

  pub length-is : length_of (month_number d) ≡ month_length d.year d.month
  unfolding length_of
  length-is = ap₂ month_length year-is month-is

  -- before the next month's first
  pub day-below : day_number d < days_before (suc (month_number d))
  unfolding day_number days_before
  day-below = omega (arith, from-day, to-day, length-is)

-- the last month's last day is the 36,525th
all-days : days_before 1200 ≡ 36525
unfolding days_before length_of month_length february
all-days = refl

pub day-most : (d : Date) → exists d ≡ true → day_number d ≤ 36524
day-most d e =
    omega (arith, before-grows 1200 (suc (month_number d)) (month-below d e), all-days, day-below d e)

-- a date in an earlier month has a smaller number
earlier : (a b : Date) → exists a ≡ true → month_number a < month_number b → day_number a < day_number b
unfolding day_number
earlier a b e h =
    omega (arith, before-grows (month_number b) (suc (month_number a)) h, day-below a e)

-- dates of one year and month have one month number
pub one-month : (a b : Date) → a.year ≡ b.year → a.month ≡ b.month → month_number a ≡ month_number b
unfolding month_number
one-month a b y m = rw (y, m)

-- two tests agree where n and m stand as x and y do
alike : (n m x y : ℕ) → (x < y → n < m) → (y ≤ x → m ≤ n) → (n <? m) ≡ (x <? y)
alike n m x y less no_less =
    compare x y (λ h. lt-ltb n m (less h) ∙ sym (lt-ltb x y h)) (λ h. le-ltb n m (no_less h) ∙ sym (le-ltb x y h))

-- two dates: which has the smaller number
module _ (a b : Date) (e : exists a ≡ true) (f : exists b ≡ true) where
  -- in one month the day tells
  by-day : a.year ≡ b.year → a.month ≡ b.month → (day_number a <? day_number b) ≡ (a.day <? b.day)
  unfolding day_number
  by-day y m =
      let z : days_before (month_number a) ≡ days_before (month_number b) = ap days_before (one-month a b y m) in
      alike (day_number a) (day_number b) a.day b.day (λ h. omega (arith, z, from-day a e)) (λ h. omega (arith, z))

  -- in two months any two numbers that tell which month is earlier
  across : (x y : ℕ) → (x < y → month_number a < month_number b) → (y ≤ x → month_number b < month_number a) → (day_number a <? day_number b) ≡ (x <? y)
  across x y less no_less =
      alike (day_number a) (day_number b) x y (λ h. earlier a b e (less h)) (λ h. omega (arith, earlier b a f (no_less h)))

  -- in one year the month
  by-month : a.year ≡ b.year → (a.month ≡ b.month → ⊥) → (day_number a <? day_number b) ≡ (a.month <? b.month)
  unfolding month_number
  by-month y other =
      across a.month b.month (λ h. omega (arith, from-month a e)) (λ h. omega (arith, from-month b f))

  -- in two years the year
  by-year : (a.year ≡ b.year → ⊥) → (day_number a <? day_number b) ≡ (a.year <? b.year)
  unfolding month_number
  by-year other =
      across a.year b.year (λ h. omega (arith, from-year a e, to-month a e)) (λ h. omega (arith, from-year b f, to-month b f))

  -- the earlier date has the smaller number, and only the earlier
  pub ordered : (day_number a <? day_number b) ≡ is_earlier a b
  unfolding is_earlier
  ordered =
      let Says : Bool → Type 0 = λ t. (day_number a <? day_number b) ≡ t in
      choice Says (a.year is b.year)
      (λ y. let one : a.year ≡ b.year = eqb-true a.year b.year y in
      choice Says (a.month is b.month) (λ m. by-day one (eqb-true a.month b.month m)) (λ m. by-month one (eqb-false a.month b.month m)))
      (λ y. by-year (eqb-false a.year b.year y))

pub by_parts : (a b : Date) → a.year ≡ b.year → a.month ≡ b.month → a.day ≡ b.day → a ≡ b
by_parts a b y m d = ap₂ (λ (f : ℕ → Date) (n : ℕ). f n) (ap₂ date y m) d

-- one number, one date
module _ (a b : Date) (e : exists a ≡ true) (f : exists b ≡ true) (h : day_number a ≡ day_number b) where
  same-month : month_number a ≡ month_number b
  same-month =
      compare (month_number a) (month_number b) (λ l. absurd (omega (arith, earlier a b e l)))
      (λ g. compare (month_number b) (month_number a) (λ l. absurd (omega (arith, earlier b a f l))) (λ l. omega arith))

  pub same-date : a ≡ b
  unfolding day_number
  same-date =
      let y : a.year ≡ b.year = sym (year-is a e) ∙ ap (λ (k : ℕ). year_at k) same-month ∙ year-is b f in
      let m : a.month ≡ b.month = sym (month-is a e) ∙ ap (λ (k : ℕ). month_at k) same-month ∙ month-is b f in
      let z : days_before (month_number a) ≡ days_before (month_number b) = ap days_before same-month in
      let d : a.day ≡ b.day = omega (arith, z, from-day a e, from-day b f) in
      by_parts a b y m d

-- how far numbers of existing dates go
pub ruleset numbered = (from-year, from-month, from-day, month-below, day-most)
