-- Days between dates, over what the call promises.
use Prim.Native.Nat.{ℕ, zero, suc, ◌+◌, ◌-◌, ◌≤◌}
use mathlib.Core.Path.{◌≡◌, refl, sym, ap, ap₂, ◌∙◌, subst}
use mathlib.Core.Bool.{Bool, true, false, cond, ◌&&◌}
use native.Mathlib.Nat.{add-zero}
use native.Mathlib.Omega.{arith}
use borrow.Author.Tests.{lt-ltb, le-ltb}
use lib.Dec.{ltb}
use lib.IntN.{ℤ, pos, negsuc, neg_ℤ, nat_abs, ◌+ℤ◌, ◌-ℤ◌, +ℤ_assoc, +ℤ_comm, +ℤ_invr, +ℤ_invl, +ℤ_idl, neg_ℤ-+ℤ, neg_ℤ-neg_ℤ, +ℤ-neg_ℤ_cancel, -ℤ-+ℤ_cancel}
use lib.Signed.{lt_z}
use Rattle.octets.specs.Choice.{◌<?◌}
use Rattle.octets.proofs.Tests.{by-test, choice, split, and_both}
use Rattle.renewal.specs.Counting.{exists, month_number, length_of, days_before, day_number}
use Rattle.renewal.specs.Days.{days_apart, days_between}
use Rattle.renewal.specs.Order.{is_earlier}
use Rattle.renewal.specs.Renewing.{renewal_date}
use Rattle.renewal.specs.Stays.{last_day}
use Rattle.renewal.specs.declared.Date.{Date}
use Rattle.renewal.specs.declared.DaysApart.{DaysApart}
use Rattle.renewal.specs.declared.Renewed.{Renewed}
use Rattle.renewal.proofs.Numbered.{from-day, length-is, day-most, one-month, ordered, same-date}
use Rattle.renewal.proofs.InTurn.{first-there, stays, keeps-day}

-- both dates exist where 0 is answered
both-there : (a b : Date) → (days_between a b).number ≡ 0 → (exists a && exists b) ≡ true
unfolding days_between
both-there a b =
    choice (λ (x : DaysApart). x.number ≡ 0 → (exists a && exists b) ≡ true) (exists a && exists b)
    (λ t z. t) (λ t z. absurd (omega arith))

-- and then it is the difference of their numbers
days-are : (a b : Date) → (exists a && exists b) ≡ true → days_between a b ≡ days_apart 0 (pos (day_number b) -ℤ pos (day_number a))
unfolding days_between
days-are a b t = rw t

-- -(y - x) is x - y
turned : (x y : ℤ) → neg_ℤ (y -ℤ x) ≡ x -ℤ y
turned x y = neg_ℤ-+ℤ y (neg_ℤ x) ∙ ap (λ (z : ℤ). neg_ℤ y +ℤ z) (neg_ℤ-neg_ℤ x) ∙ +ℤ_comm (neg_ℤ y) x

-- a difference is below 0 exactly where the first number is below the second
below : (n m : ℕ) → lt_z (pos n -ℤ pos m) (pos 0) ≡ (n <? m)
below n zero = rw (add-zero n)
below n (suc m) =
    elim (ltb n (suc m)) as (λ t. lt_z (cond t (negsuc (suc m - suc n)) (pos (n - suc m))) (pos 0) ≡ t)
    [ true ↦ refl | false ↦ le-ltb (n - suc m) 0 (omega arith) ]

-- a number is above 0 exactly where its negative is below
mirrored : (z : ℤ) → lt_z (pos 0) z ≡ lt_z (neg_ℤ z) (pos 0)
mirrored (pos zero) = refl
mirrored (pos (suc n)) = lt-ltb 0 (suc n) (omega arith)
mirrored (negsuc n) = sym (le-ltb (suc n) 0 (omega arith))

-- so a difference is above 0 exactly where the second number is below the first
above : (n m : ℕ) → lt_z (pos 0) (pos n -ℤ pos m) ≡ (m <? n)
above n m = mirrored (pos n -ℤ pos m) ∙ ap (λ (z : ℤ). lt_z z (pos 0)) (turned (pos m) (pos n)) ∙ below m n

-- r is what is answered of two dates: any outcome that meets the call's promise
module _ (a b : Date) (r : DaysApart) (promise : r ≡ days_between a b) where
  -- 0 where both exist
  pub told : (exists a && exists b) ≡ true → r.number ≡ 0
  told t = ap (λ (x : DaysApart). x.number) (promise ∙ days-are a b t)

  module _ (zero : r.number ≡ 0) where
    there : (exists a && exists b) ≡ true
    there = both-there a b (sym (ap (λ (x : DaysApart). x.number) promise) ∙ zero)

    pub first-exists : exists a ≡ true
    first-exists = (split (exists a) there).0

    pub second-exists : exists b ≡ true
    second-exists = (split (exists a) there).1

    days-is : r.days ≡ pos (day_number b) -ℤ pos (day_number a)
    days-is = ap (λ (x : DaysApart). x.days) (promise ∙ days-are a b there)

    -- so many days from the first date is the second
    pub on-from : r.days +ℤ pos (day_number a) ≡ pos (day_number b)
    on-from = ap (λ (z : ℤ). z +ℤ pos (day_number a)) days-is ∙ -ℤ-+ℤ_cancel (pos (day_number b)) (pos (day_number a))

    pub so-many : (n : ℕ) → n + day_number a ≡ day_number b → r.days ≡ pos n
    so-many n e =
        days-is ∙ ap (λ (k : ℕ). pos k -ℤ pos (day_number a)) (sym e) ∙ +ℤ-neg_ℤ_cancel (pos n) (pos (day_number a))

    -- it is 0 only for one date
    pub none_only : r.days ≡ pos 0 → a ≡ b
    none_only e =
        let n : 0 + day_number a ≡ day_number b = ap nat_abs (ap (λ (z : ℤ). z +ℤ pos (day_number a)) (sym e) ∙ on-from) in
        same-date a b first-exists second-exists (omega arith)

    -- "negative when the second is earlier", and only then
    pub below-nought : lt_z r.days (pos 0) ≡ is_earlier b a
    below-nought =
        ap (λ (z : ℤ). lt_z z (pos 0)) days-is ∙ below (day_number b) (day_number a) ∙ ordered b a second-exists first-exists

    -- and above 0 exactly where it is later
    pub above-nought : lt_z (pos 0) r.days ≡ is_earlier a b
    above-nought =
        ap (λ (z : ℤ). lt_z (pos 0) z) days-is ∙ above (day_number b) (day_number a) ∙ ordered a b first-exists second-exists

    -- in one month it is the difference of the days
    pub within-month : a.year ≡ b.year → a.month ≡ b.month → a.day ≤ b.day → r.days ≡ pos (b.day - a.day)
    unfolding day_number
    within-month y m h =
        let n : days_before (month_number a) ≡ days_before (month_number b) = ap days_before (one-month a b y m) in
        so-many (b.day - a.day) (omega (arith, n, from-day a first-exists))

-- and 0 for one date
pub none-for-one : (a : Date) (r : DaysApart) → r ≡ days_between a a → r.days ≡ pos 0
unfolding days_between
none-for-one a r e =
    ap (λ (x : DaysApart). x.days) e
    ∙ choice (λ (x : DaysApart). x.days ≡ pos 0) (exists a && exists a) (λ t. +ℤ_invr (pos (day_number a))) (λ t. refl)

both_ways : (p q : Bool) → (p && q) ≡ (q && p)
both_ways true true = refl
both_ways true false = refl
both_ways false true = refl
both_ways false false = refl

negated : (a b : Date) → (days_between b a).days ≡ neg_ℤ (days_between a b).days
unfolding days_between
negated a b =
    by-test (exists a && exists b)
    (λ t. rw (both_ways (exists b) (exists a), t) (sym (turned (pos (day_number a)) (pos (day_number b)))))
    (λ t. rw (both_ways (exists b) (exists a), t))

-- it changes sign when the two change places, refused or not
pub changes-sign : (a b : Date) (r s : DaysApart) → r ≡ days_between a b → s ≡ days_between b a → s.days ≡ neg_ℤ r.days
changes-sign a b r s p q =
    ap (λ (x : DaysApart). x.days) q ∙ negated a b ∙ ap (λ (x : DaysApart). neg_ℤ x.days) (sym p)

-- (y - x) + (z - y) is z - x
telescopes : (x y z : ℤ) → (y -ℤ x) +ℤ (z -ℤ y) ≡ z -ℤ x
telescopes x y z =
    +ℤ_comm (y -ℤ x) (z -ℤ y)
    ∙ +ℤ_assoc z (neg_ℤ y) (y -ℤ x)
    ∙ ap (λ (k : ℤ). z +ℤ k) (sym (+ℤ_assoc (neg_ℤ y) y (neg_ℤ x)) ∙ ap (λ (k : ℤ). k +ℤ neg_ℤ x) (+ℤ_invl y) ∙ +ℤ_idl (neg_ℤ x))

-- it adds up over three dates
module _ (a b c : Date) (r s t : DaysApart) (one : r ≡ days_between a b) (other : s ≡ days_between b c) (all : t ≡ days_between a c)
    (zero_one : r.number ≡ 0) (zero-other : s.number ≡ 0) where
  pub adds-number : t.number ≡ 0
  adds-number = told a c t all (and_both (exists a) (exists c) (first-exists a b r one zero_one) (second-exists b c s other zero-other))

  pub adds-up : r.days +ℤ s.days ≡ t.days
  adds-up =
      ap₂ ◌+ℤ◌ (days-is a b r one zero_one) (days-is b c s other zero-other)
      ∙ telescopes (pos (day_number a)) (pos (day_number b)) (pos (day_number c))
      ∙ sym (days-is a c t all adds-number)

-- from a month's first to the next month's first it is the month's length: x is the renewal by one month, on day 1
module _ (first : Date) (x : Renewed) (renews : x ≡ renewal_date first (pos 1)) (zero : x.number ≡ 0) (start : first.day ≡ 1)
    (r : DaysApart) (promise : r ≡ days_between first x.date) where
  pub month-number : r.number ≡ 0
  month-number =
      told first x.date r promise
      (and_both (exists first) (exists x.date) (first-there first (pos 1) x renews zero) (stays first (pos 1) x renews zero).there)

  next-month : month_number x.date ≡ suc (month_number first)
  next-month = let n : month_number x.date ≡ month_number first + 1 = ap nat_abs (stays first (pos 1) x renews zero).months in omega arith

  pub month-on : r.days ≡ pos (last_day first)
  unfolding day_number days_before
  month-on =
      let n : days_before (month_number x.date) ≡ days_before (month_number first) + length_of (month_number first) = ap days_before next-month in
      let d : x.date.day ≡ first.day = keeps-day first (pos 1) x renews zero (omega arith) in
      so-many first x.date r promise month-number (last_day first)
      (omega (arith, n, d, length-is first (first-there first (pos 1) x renews zero)))

-- how far two dates can be apart
apart-most : (i j m : ℕ) → i ≤ m → j ≤ m → nat_abs (pos i -ℤ pos j) ≤ m
apart-most i zero m g h = omega arith
apart-most i (suc j) m g h =
    elim (ltb i (suc j)) as (λ t. nat_abs (cond t (negsuc (suc j - suc i)) (pos (i - suc j))) ≤ m) [ true ↦ omega arith | false ↦ omega arith ]

pub days-range : (a b : Date) (r : DaysApart) → r ≡ days_between a b → nat_abs r.days ≤ 36524
unfolding days_between
days-range a b r p =
    let g : nat_abs (days_between a b).days ≤ 36524 =
    choice (λ (x : DaysApart). nat_abs x.days ≤ 36524) (exists a && exists b)
    (λ t. let c = split (exists a) t in apart-most (day_number b) (day_number a) 36524 (day-most b c.1) (day-most a c.0))
    (λ t. omega arith)
    in
    subst (λ (x : DaysApart). nat_abs x.days ≤ 36524) (sym p) g
