-- How large the numbers of a renewal are: the year of a month, what is left of twelve, a count.
use Prim.Native.Nat.{suc, ◌/◌, ◌≤◌}
use mathlib.Core.Path.{◌≡◌, refl, sym}
use mathlib.Core.Bool.{true}
use native.Mathlib.Omega.{arith}
use borrow.Author.Tests.{leb-true}
use lib.Dec.{T}
use lib.IntN.{ℤ, pos, negsuc, nat_abs}
use lib.Signed.{mag, non_neg}
use Rattle.octets.specs.Choice.{◌≤?◌}
use Rattle.octets.proofs.Tests.{never, split}
use Rattle.dates.specs.Calendar.{FIRST-YEAR, LAST-YEAR}
use Rattle.signed.specs.Floor.{floor_div}
use Rattle.signed.proofs.FloorLaws.{left_below}
use Rattle.renewal.specs.Renewing.{is_count, is_year}
use Rattle.renewal.proofs.Numbered.{month-below}

pub mag-floor : (z : ℤ) → mag (floor_div z) ≡ mag z / 12
unfolding floor_div
mag-floor (pos n) = refl
mag-floor (negsuc n) = refl

pub ruleset floors = (mag-floor, left_below)

pub years-sign : (z : ℤ) → is_year z ≡ true → T (non_neg z)
unfolding is_year
years-sign (pos y) t = tt
years-sign (negsuc y) t = never (sym t)

pub years-most : (z : ℤ) → is_year z ≡ true → nat_abs z ≤ LAST-YEAR
unfolding is_year
years-most (pos y) t = leb-true y LAST-YEAR (split (FIRST-YEAR ≤? y) t).1
years-most (negsuc y) t = never (sym t)

pub ruleset years = (years-sign, years-most)

pub count-most : (z : ℤ) → is_count z ≡ true → mag z ≤ 1199
unfolding is_count
count-most (pos n) t = leb-true n 1199 t
count-most (negsuc n) t = omega (arith, leb-true (suc n) 1199 t)

pub ruleset counts = (month-below, count-most)
