-- Each of the three calls has one outcome: its promise is an equation.
use mathlib.Core.Path.{◌≡◌, sym, ◌∙◌}
use lib.IntN.{ℤ}
use Rattle.renewal.specs.Renewing.{renewal_date}
use Rattle.renewal.specs.Days.{weekday, days_between}
use Rattle.renewal.specs.declared.Date.{Date}
use Rattle.renewal.specs.declared.Renewed.{Renewed}
use Rattle.renewal.specs.declared.DayOfWeek.{DayOfWeek}
use Rattle.renewal.specs.declared.DaysApart.{DaysApart}

pub renewal-unique : (first : Date) (n : ℤ) (x y : Renewed) → x ≡ renewal_date first n → y ≡ renewal_date first n → x ≡ y
renewal-unique first n x y p q = p ∙ sym q

pub weekday-unique : (d : Date) (x y : DayOfWeek) → x ≡ weekday d → y ≡ weekday d → x ≡ y
weekday-unique d x y p q = p ∙ sym q

pub between-unique : (a b : Date) (x y : DaysApart) → x ≡ days_between a b → y ≡ days_between a b → x ≡ y
between-unique a b x y p q = p ∙ sym q
