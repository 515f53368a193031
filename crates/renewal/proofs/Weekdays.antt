-- Weekdays, and the day after a date, over what the calls promise.
use Prim.Native.Nat.{ℕ, suc, ◌+◌, ◌-◌, ◌%◌, ◌<◌, ◌≤◌}
use mathlib.Core.Path.{◌≡◌, refl, sym, ap, ap₂, ◌∙◌}
use mathlib.Core.Bool.{true}
use native.Mathlib.Omega.{arith}
use borrow.Author.Tests.{ltb-true, ltb-false}
use lib.IntN.{ℤ, pos, nat_abs, ◌+ℤ◌}
use Rattle.octets.specs.Choice.{◌<?◌}
use Rattle.octets.proofs.Tests.{compare, choice}
use Rattle.dates.specs.Calendar.{LAST-YEAR, month_length}
use Rattle.dates.proofs.Bounds.{length-least, date-from}
use Rattle.renewal.specs.Counting.{date, exists, month_number, length_of, days_before, day_number}
use Rattle.renewal.specs.Days.{weekday, days_between}
use Rattle.renewal.specs.Stays.{last_day}
use Rattle.renewal.specs.Following.{following}
use Rattle.renewal.specs.declared.Date.{Date}
use Rattle.renewal.specs.declared.DayOfWeek.{DayOfWeek}
use Rattle.renewal.specs.declared.DaysApart.{DaysApart}
use Rattle.renewal.proofs.Numbered.{from-year, to-year, from-month, to-month, from-day, to-day, length-is, by_parts}
use Rattle.renewal.proofs.Between.{first-exists, second-exists, on-from, so-many}

-- the weekday of a date that exists
weekday-of : (d : Date) (v : DayOfWeek) → v ≡ weekday d → exists d ≡ true → v.weekday ≡ (day_number d + 6) % 7 + 1
unfolding weekday
weekday-of d v p e = ap (λ (x : DayOfWeek). x.weekday) p ∙ rw e

-- "1 Sunday to 7 Saturday"
pub in-week : (d : Date) (v : DayOfWeek) → v ≡ weekday d → exists d ≡ true → (1 ≤ v.weekday) × (v.weekday ≤ 7)
in-week d v p e = (omega (arith, weekday-of d v p e), omega (arith, weekday-of d v p e))

-- v is the weekday of one date, w of another, r what is between them
module _ (a b : Date) (v w : DayOfWeek) (r : DaysApart) (one : v ≡ weekday a) (other : w ≡ weekday b) (promise : r ≡ days_between a b)
    (zero : r.number ≡ 0) where
  -- so many days on, the weekday is so many on
  pub days-on : (n : ℕ) → r.days ≡ pos n → w.weekday ≡ (v.weekday - 1 + n) % 7 + 1
  days-on n e =
      let k : n + day_number a ≡ day_number b = ap nat_abs (ap (λ (z : ℤ). z +ℤ pos (day_number a)) (sym e) ∙ on-from a b r promise zero) in
      omega
      (arith, k, weekday-of a v one (first-exists a b r promise zero), weekday-of b w other (second-exists a b r promise zero))

december : (d : Date) → d.year ≡ LAST-YEAR → d.month ≡ 12 → last_day d ≡ 31
unfolding month_length
december d y m = ap₂ month_length y m

-- the last date there is
last-date : (d : Date) → exists d ≡ true → LAST-YEAR ≤ d.year → 12 ≤ d.month → last_day d ≤ d.day → d ≡ date LAST-YEAR 12 31
last-date d e h i j =
    let y : d.year ≡ LAST-YEAR = omega (arith, to-year d e) in
    let m : d.month ≡ 12 = omega (arith, to-month d e) in
    let l : last_day d ≡ 31 = december d y m in
    let n : d.day ≡ 31 = omega (arith, l, to-day d e) in
    by_parts d (date LAST-YEAR 12 31) y m n

-- the number of the day after a date: the next one
module _ (d : Date) (e : exists d ≡ true) where
  in-month : (x : Date) → month_number x ≡ month_number d → x.day ≡ d.day + 1 → day_number x ≡ suc (day_number d)
  unfolding day_number
  in-month x k n = let b : days_before (month_number x) ≡ days_before (month_number d) = ap days_before k in omega (arith, b, n, from-day d e)

  month-after : (x : Date) → month_number x ≡ suc (month_number d) → x.day ≡ 1 → last_day d ≤ d.day → day_number x ≡ suc (day_number d)
  unfolding day_number days_before
  month-after x k n h =
      let b : days_before (month_number x) ≡ days_before (month_number d) + length_of (month_number d) = ap days_before k in
      omega (arith, b, n, length-is d e, from-day d e, to-day d e)

  after_is : day_number (following d) ≡ suc (day_number d)
  unfolding following month_number
  after_is =
      choice (λ (x : Date). day_number x ≡ suc (day_number d)) (d.day <? last_day d)
      (λ t. in-month (date d.year d.month (d.day + 1)) refl refl)
      (λ t.
      choice (λ (x : Date). day_number x ≡ suc (day_number d)) (d.month <? 12)
      (λ u. month-after (date d.year (d.month + 1) 1) (omega (arith, from-month d e)) refl (ltb-false d.day (last_day d) t))
      (λ u.
      month-after (date (d.year + 1) 1 1)
      (omega (arith, from-year d e, to-month d e, ltb-false d.month 12 u)) refl (ltb-false d.day (last_day d) t)))

  -- every date but the last has a day after it
  pub after-exists : (d ≡ date LAST-YEAR 12 31 → ⊥) → exists (following d) ≡ true
  unfolding following exists
  after-exists n =
      choice (λ (x : Date). exists x ≡ true) (d.day <? last_day d)
      (λ t.
      date-from d.year d.month (d.day + 1) (from-year d e) (to-year d e) (omega arith)
      (omega (arith, ltb-true d.day (last_day d) t)))
      (λ t.
      choice (λ (x : Date). exists x ≡ true) (d.month <? 12)
      (λ u.
      let h : d.month < 12 = ltb-true d.month 12 u in
      date-from d.year (d.month + 1) 1 (from-year d e) (to-year d e) (omega arith)
      (omega (arith, length-least d.year (d.month + 1) (omega arith) (omega arith))))
      (λ u.
      compare d.year LAST-YEAR
      (λ h. date-from (d.year + 1) 1 1 (omega (arith, from-year d e)) (omega arith) (omega arith) (omega (arith, length-least (d.year + 1) 1 (omega arith) (omega arith))))
      (λ h. absurd (n (last-date d e h (ltb-false d.month 12 u) (ltb-false d.day (last_day d) t))))))

-- the day after a date
module _ (d : Date) (v w : DayOfWeek) (r : DaysApart) (one : v ≡ weekday d) (other : w ≡ weekday (following d))
    (promise : r ≡ days_between d (following d)) (zero : r.number ≡ 0) where
  -- is a day away
  pub a-day-on : r.days ≡ pos 1
  a-day-on =
      so-many d (following d) r promise zero 1
      (let n : day_number (following d) ≡ suc (day_number d) = after_is d (first-exists d (following d) r promise zero) in omega arith)

  -- and has the next weekday: after Saturday comes Sunday
  pub next-weekday : w.weekday ≡ v.weekday % 7 + 1
  next-weekday =
      omega (
        arith,
        days-on d (following d) v w r one other promise zero 1 a-day-on,
        weekday-of d v one (first-exists d (following d) r promise zero),
      )
