-- How far the parts of a date go: no month has more than 31 days, only twelve have any, and each of these at least 28.
use Prim.Native.Nat.{ℕ, ◌%◌, ◌<◌, ◌≤◌}
use mathlib.Core.Path.{◌≡◌, refl}
use mathlib.Core.Bool.{true}
use native.Mathlib.Omega.{arith}
use borrow.Author.Tests.{leb-true, le-leb}
use Rattle.octets.specs.Choice.{◌is◌, ◌≤?◌, between, ◌!◌, all}
use Rattle.octets.proofs.Tests.{compare, choice, split, and_both}
use Rattle.octets.proofs.Lists.{all-at}
use Rattle.octets.proofs.Spots.{there}
use Rattle.octets.proofs.Ranges.{on}
use Rattle.dates.specs.Calendar.{FIRST-YEAR, LAST-YEAR, february, month_lengths, month_length, is_date}

module _ (y m : ℕ) where
  february-most : (february y ≤? 31) ≡ true
  unfolding february
  february-most = choice (λ n. (n ≤? 31) ≡ true) (y % 4 is 0) (λ e. refl) (λ e. refl)

  length_most : month_length y m ≤ 31
  unfolding month_length all
  length_most =
      compare 0 (month_lengths y ! m)
      (λ h. leb-true (month_lengths y ! m) 31 (all-at (λ n. n ≤? 31) (month_lengths y) m (rw february-most) h))
      (λ h. omega arith)

  length_some : 0 < month_length y m → m ≤ 12
  unfolding month_length
  length_some h = omega (arith, there (month_lengths y) m h)

  february-least : (28 ≤? february y) ≡ true
  unfolding february
  february-least = choice (λ n. (28 ≤? n) ≡ true) (y % 4 is 0) (λ e. refl) (λ e. refl)

  pub length-least : 1 ≤ m → m ≤ 12 → 28 ≤ month_length y m
  unfolding month_length
  length-least g h =
      leb-true 28 (month_length y m) (on (λ k. 28 ≤? month_length y k) true 1 12 (rw february-least) m g (omega arith))

-- a date that exists, part by part
module _ (y m d : ℕ) (e : is_date y m d ≡ true) where
  pub year-first : FIRST-YEAR ≤ y
  unfolding is_date
  year-first = leb-true FIRST-YEAR y (split (FIRST-YEAR ≤? y) (split (between FIRST-YEAR LAST-YEAR y) e).0).0

  pub date-year : y ≤ LAST-YEAR
  unfolding is_date
  date-year = leb-true y LAST-YEAR (split (FIRST-YEAR ≤? y) (split (between FIRST-YEAR LAST-YEAR y) e).0).1

  pub some-day : 1 ≤ d
  unfolding is_date
  some-day = leb-true 1 d (split (1 ≤? d) (split (between FIRST-YEAR LAST-YEAR y) e).1).0

  pub day-inside : d ≤ month_length y m
  unfolding is_date
  day-inside = leb-true d (month_length y m) (split (1 ≤? d) (split (between FIRST-YEAR LAST-YEAR y) e).1).1

  pub some-month : 1 ≤ m
  unfolding month_length
  some-month = compare 0 m (λ h. h) (λ h. let z : m ≡ 0 = omega arith in let n : d ≤ 0 = rw z at day-inside in omega (arith, some-day, n))

  pub date-month : m ≤ 12
  date-month = length_some y m (omega (arith, some-day, day-inside))

  pub date-day : d ≤ 31
  date-day = omega (arith, day-inside, length_most y m)

-- and from its parts
pub date-from : (y m d : ℕ) → FIRST-YEAR ≤ y → y ≤ LAST-YEAR → 1 ≤ d → d ≤ month_length y m → is_date y m d ≡ true
unfolding is_date
date-from y m d a b e f =
    and_both (between FIRST-YEAR LAST-YEAR y) (between 1 (month_length y m) d)
    (and_both (FIRST-YEAR ≤? y) (y ≤? LAST-YEAR) (le-leb FIRST-YEAR y a) (le-leb y LAST-YEAR b))
    (and_both (1 ≤? d) (d ≤? month_length y m) (le-leb 1 d e) (le-leb d (month_length y m) f))
