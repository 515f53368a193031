-- A renewal date stays in its month; and "adding two counts one after the other equals adding their sum".
use Prim.Native.Nat.{ℕ, ◌<◌, ◌≤◌}
use mathlib.Core.Path.{◌≡◌, refl, sym, ap, ◌∙◌, subst}
use mathlib.Core.Bool.{true}
use mathlib.Core.Logic.{inl, inr}
use native.Mathlib.Omega.{arith}
use borrow.Author.Tests.{leb-true, leb-false, le-leb}
use lib.IntN.{ℤ, pos, ◌+ℤ◌, +ℤ_assoc}
use Rattle.octets.specs.Choice.{◌≤?◌}
use Rattle.octets.proofs.Tests.{choice}
use Rattle.dates.specs.Calendar.{month_length}
use Rattle.dates.proofs.Bounds.{length-least, date-from}
use Rattle.renewal.specs.Counting.{date, exists, month_number}
use Rattle.renewal.specs.Renewing.{kept, renewal_date}
use Rattle.renewal.specs.Stays.{Stays}
use Rattle.renewal.specs.declared.Date.{Date}
use Rattle.renewal.specs.declared.Renewed.{Renewed}
use Rattle.renewal.proofs.Numbered.{year_at, month_at, number_of, from-day}
use Rattle.renewal.proofs.Inside.{Inside, reached-at, answered}

-- a month's days
module _ (k : ℕ) (h : k < 1200) where
  long : 28 ≤ month_length (year_at k) (month_at k)
  long = length-least (year_at k) (month_at k) (omega arith) (omega arith)

  there-at : (d : ℕ) → 1 ≤ d → d ≤ month_length (year_at k) (month_at k) → exists (date (year_at k) (month_at k) d) ≡ true
  unfolding exists
  there-at d a b = date-from (year_at k) (month_at k) d (omega arith) (omega arith) a b

-- what month k keeps of the first date's day
module _ (first : Date) (n : ℤ) (k : ℕ) (h : k < 1200) (g : 1 ≤ first.day) (e : pos (month_number first) +ℤ n ≡ pos k) where
  kept-stays : Stays first n (kept (year_at k) (month_at k) first.day).date
  unfolding kept
  kept-stays =
      choice (λ (d : ℕ). Stays first n (date (year_at k) (month_at k) d)) (first.day ≤? month_length (year_at k) (month_at k))
      (λ t.
      let a : first.day ≤ month_length (year_at k) (month_at k) = leb-true first.day (month_length (year_at k) (month_at k)) t in
      record {
        there = there-at k h first.day g a;
        months = ap pos (number_of k first.day) ∙ sym e;
        day = inl refl;
        by_first = omega arith;
        by_last = a;
      })
      (λ t.
      let a : month_length (year_at k) (month_at k) < first.day = leb-false first.day (month_length (year_at k) (month_at k)) t in
      let l : 28 ≤ month_length (year_at k) (month_at k) = long k h in
      record {
        there = there-at k h (month_length (year_at k) (month_at k)) (omega arith) (omega arith);
        months = ap pos (number_of k (month_length (year_at k) (month_at k))) ∙ sym e;
        day = inr refl;
        by_first = omega arith;
        by_last = omega arith;
      })

-- x is what a renewal answers: any outcome that meets the call's promise
module _ (first : Date) (n : ℤ) (x : Renewed) (promise : x ≡ renewal_date first n) (zero : x.number ≡ 0) where
  inside : Inside first n
  inside = answered first n (sym (ap (λ (r : Renewed). r.number) promise) ∙ zero)

  is-kept : x ≡ kept (year_at inside.place) (month_at inside.place) first.day
  is-kept = promise ∙ reached-at first n inside

  -- the first date exists
  pub first-there : exists first ≡ true
  first-there = inside.there

  -- "same day of the month as the first date, or that month's last day if it is shorter"
  pub stays : Stays first n x.date
  stays =
      subst (λ (r : Renewed). Stays first n r.date) (sym is-kept)
      (kept-stays first n inside.place inside.below (from-day first first-there) inside.at)

  -- "For a first date on days 1 to 28" it is the same day
  pub keeps-day : first.day ≤ 28 → x.date.day ≡ first.day
  unfolding kept
  keeps-day h =
      let l : 28 ≤ month_length (year_at inside.place) (month_at inside.place) = long inside.place inside.below in
      ap (λ (r : Renewed). r.date.day) is-kept
      ∙ rw (le-leb first.day (month_length (year_at inside.place) (month_at inside.place)) (omega arith))

-- and 0 is answered wherever the first date exists and the month that is reached, k, is one of the 1,200
pub answers : (first : Date) (n : ℤ) (x : Renewed) → x ≡ renewal_date first n → exists first ≡ true → (k : ℕ) → pos (month_number first) +ℤ n ≡ pos k → k < 1200 → x.number ≡ 0
unfolding kept
answers first n x p e k a b =
    ap (λ (r : Renewed). r.number) (p ∙ reached-at first n (record { there = e; place = k; at = a; below = b }))

-- "adding two counts one after the other equals adding their sum": x by the first count, y from x by the second, z by their sum
module _ (first : Date) (a b : ℤ) (x y z : Renewed) (one : x ≡ renewal_date first a) (other : y ≡ renewal_date x.date b)
    (both : z ≡ renewal_date first (a +ℤ b)) (early : first.day ≤ 28) (zero : x.number ≡ 0) where
  -- the second count starts where the first one ends
  steps : pos (month_number x.date) +ℤ b ≡ pos (month_number first) +ℤ (a +ℤ b)
  steps = ap (λ (k : ℤ). k +ℤ b) (stays first a x one zero).months ∙ +ℤ_assoc (pos (month_number first)) a b

  same_end : (k : ℕ) → k < 1200 → pos (month_number first) +ℤ (a +ℤ b) ≡ pos k → y ≡ z
  same_end k h e =
      other
      ∙ reached-at x.date b (record { there = (stays first a x one zero).there; place = k; at = steps ∙ e; below = h })
      ∙ ap (kept (year_at k) (month_at k)) (keeps-day first a x one zero early)
      ∙ sym (reached-at first (a +ℤ b) (record { there = first-there first a x one zero; place = k; at = e; below = h }))
      ∙ sym both

  -- where the second lies in 2000 to 2099, so does their sum, and is the same date
  pub in-turn : y.number ≡ 0 → y ≡ z
  in-turn o = let i = inside x.date b y other o in same_end i.place i.below (sym steps ∙ i.at)

  -- and the other way round
  pub at_once : z.number ≡ 0 → y ≡ z
  at_once o = let i = inside first (a +ℤ b) z both o in same_end i.place i.below i.at
