-- A renewal that is answered with 0: the month it reaches is one of the 1,200, and the answer is that month's date.
use Prim.Native.Nat.{ℕ, suc, ◌+◌, ◌-◌, ◌/◌, ◌<◌, ◌≤◌}
use mathlib.Core.Path.{◌≡◌, refl, sym, ap, ◌∙◌}
use mathlib.Core.Bool.{true, false, cond}
use native.Mathlib.Omega.{arith}
use borrow.Author.Tests.{leb-true, le-leb, lt-leb, ltb-false}
use lib.Dec.{ltb}
use lib.IntN.{ℤ, pos, negsuc, nat_abs, sub_ℕ, ◌+ℤ◌, pos-ne-negsuc}
use Rattle.octets.specs.Choice.{◌≤?◌, between}
use Rattle.octets.proofs.Tests.{by-test, never, choice, split, and_both}
use Rattle.dates.specs.Calendar.{FIRST-YEAR, LAST-YEAR}
use Rattle.signed.specs.Floor.{floor_div, floor_mod}
use Rattle.renewal.specs.Counting.{exists, month_number}
use Rattle.renewal.specs.Renewing.{is_count, year_of, month_of, is_year, kept, reached, renewal_date}
use Rattle.renewal.specs.declared.Date.{Date}
use Rattle.renewal.specs.declared.Renewed.{Renewed}
use Rattle.renewal.proofs.Numbered.{year_at, month_at, month-below}

-- a month of the 1,200
module _ (k : ℕ) (h : k < 1200) where
  year-at : between FIRST-YEAR LAST-YEAR (year_at k) ≡ true
  year-at = and_both (FIRST-YEAR ≤? year_at k) (year_at k ≤? LAST-YEAR) (le-leb FIRST-YEAR (year_at k) (omega arith)) (le-leb (year_at k) LAST-YEAR (omega arith))

  reached-inside : (d : ℕ) → reached (pos k) d ≡ kept (year_at k) (month_at k) d
  unfolding reached is_year year_of month_of floor_div floor_mod
  reached-inside d = rw year-at

-- a year below 2000 is none of these
year-before : (q : ℕ) → is_year (sub_ℕ FIRST-YEAR (suc q)) ≡ false
unfolding is_year
year-before q =
    elim (ltb FIRST-YEAR (suc q)) as (λ t. is_year (cond t (negsuc (suc q - suc FIRST-YEAR)) (pos (FIRST-YEAR - suc q))) ≡ false)
    [ true ↦ refl | false ↦ rw (lt-leb FIRST-YEAR (FIRST-YEAR - suc q) (omega arith)) ]

-- a month whose year is one of these
month-inside : (z : ℤ) → is_year (year_of z) ≡ true → (k : ℕ) × (z ≡ pos k) × (k < 1200)
unfolding is_year year_of floor_div
month-inside (pos k) e =
    let h : year_at k ≤ LAST-YEAR = leb-true (year_at k) LAST-YEAR (split (FIRST-YEAR ≤? year_at k) e).1 in
    (k, refl, omega (arith, h))
month-inside (negsuc k) e = never (sym e ∙ year-before (k / 12))

-- what it takes from one month of the 1,200 to another is a count
count-inside : (i j : ℕ) (n : ℤ) → pos i +ℤ n ≡ pos j → i < 1200 → j < 1200 → nat_abs n ≤ 1199
count-inside i j (pos n) e g h = let z : i + n ≡ j = ap nat_abs e in omega arith
count-inside i j (negsuc n) e g h =
    by-test (ltb i (suc n))
    (λ t. let z : negsuc (suc n - suc i) ≡ pos j = sym (rw t) ∙ e in absurd (pos-ne-negsuc j (suc n - suc i) (sym z)))
    (λ t. omega (arith, ltb-false i (suc n) t))

-- the month that a renewal reaches
pub record Inside (d : Date) (n : ℤ) : Type 0 where
  pub there : exists d ≡ true
  pub place : ℕ
  pub at : pos (month_number d) +ℤ n ≡ pos place
  pub below : place < 1200

-- its answer is that month's date
pub reached-at : (d : Date) (n : ℤ) (i : Inside d n) → renewal_date d n ≡ kept (year_at i.place) (month_at i.place) d.day
unfolding renewal_date is_count
reached-at d n i =
    let c : (nat_abs n ≤? 1199) ≡ true = le-leb (nat_abs n) 1199 (count-inside (month_number d) i.place n i.at (month-below d i.there) i.below) in
    rw (i.there, c, i.at) (reached-inside i.place i.below d.day)

-- a refusal does not answer 0
pub answered : (d : Date) (n : ℤ) → (renewal_date d n).number ≡ 0 → Inside d n
unfolding renewal_date reached
answered d n =
    choice (λ (x : Renewed). x.number ≡ 0 → Inside d n) (exists d)
    (λ e. choice (λ (x : Renewed). x.number ≡ 0 → Inside d n) (is_count n)
    (λ c. choice (λ (x : Renewed). x.number ≡ 0 → Inside d n) (is_year (year_of (pos (month_number d) +ℤ n)))
    (λ y z. let m = month-inside (pos (month_number d) +ℤ n) y in record { there = e; place = m.0; at = m.1; below = m.2 })
    (λ y z. absurd (omega arith)))
    (λ c z. absurd (omega arith)))
    (λ e z. absurd (omega arith))
