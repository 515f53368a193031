-- A list of bytes and the records that it is cut into: what is said of the one, said of the others.
use Prim.Native.Nat.{ℕ, zero, suc, ◌+◌, ◌*◌, ◌/◌, ◌≤◌, ◌<◌}
use mathlib.Core.Path.{◌≡◌, refl, sym, ap, ap₂, ◌∙◌}
use mathlib.Core.List.{List, [], ◌∷◌, ◌++◌}
use mathlib.Core.Bool.{true}
use native.Mathlib.Omega.{arith}
use lib.ListN.{length, take, drop, get_or, length-drop, take-append-drop}
use lib.Seq.{drop-drop, get_or-take}
use borrow.Author.Tests.{eq-eqb, ne_eqb, le-leb}
use Rattle.std.specs.List.{concat, sum_by}
use Rattle.std.specs.Simd.{first_chunks}
use Rattle.std.proofs.lemmas.List.Sums.{sum_by-cons}
use Rattle.octets.specs.Choice.{◌is◌}
use Rattle.octets.proofs.Tests.{choice}
use Rattle.board.specs.Files.{FILES, size_of}
use Rattle.board.proofs.Layouts.{record-first, taken-first}
use Rattle.board.proofs.Checks.{size_small, taken-size}
use Rattle.configuration.specs.Records.{is_records, records_in, labels_in, needed, needed_by, size_in}
use Rattle.configuration.specs.InnerFiling.{is_last, are_records, labels_of}
use Rattle.configuration.proofs.RecordLaws.{Records, records-of}

-- ---- the cut itself

-- n records of a list that is as long
pub cut-count : (n : ℕ) (d : List ℕ) → length (first_chunks 11 n d) ≡ n
cut-count zero d = refl
cut-count (suc n) d = ap suc (cut-count n (drop 11 d))

nothing : (d : List ℕ) → length d ≡ 0 → [] ≡ d
nothing [] e = refl
nothing (x ∷ d) e = absurd (omega arith)

pub cut-whole : (n : ℕ) (d : List ℕ) → length d ≡ 11 * n → concat (first_chunks 11 n d) ≡ d
cut-whole zero d e = nothing d (omega arith)
cut-whole (suc n) d e =
    ap (λ (l : List ℕ). take 11 d ++ l) (cut-whole n (drop 11 d) (rw length-drop (omega arith))) ∙ take-append-drop 11 d

-- the record at a place
pub cut-at : (n i : ℕ) (d z : List ℕ) → i < n → get_or (first_chunks 11 n d) i z ≡ take 11 (drop (11 * i) d)
cut-at zero i d z h = absurd (omega arith)
cut-at (suc n) zero d z h = refl
cut-at (suc n) (suc i) d z h =
    let k : 11 * suc i ≡ 11 + 11 * i = omega arith in
    cut-at n i (drop 11 d) z (omega arith) ∙ rw (k, ← drop-drop (11 * i) 11 d)

-- ---- its labels

pub cut-labels : (n : ℕ) (d : List ℕ) → labels_of (first_chunks 11 n d) ≡ labels_in n d
unfolding labels_of labels_in
cut-labels zero d = refl
cut-labels (suc n) d = ap₂ ◌∷◌ (get_or-take 11 d 0 0 (omega arith)) (cut-labels n (drop 11 d))

-- ---- what it takes

-- a record's SIZE is in its own bytes
pub size-first : (d : List ℕ) → 11 ≤ length d → size_of (take 11 d) ≡ size_of d
size-first d h = sym (taken-size (take 11 d)) ∙ taken-first d h ∙ taken-size d

pub needed-first : (d : List ℕ) → 11 ≤ length d → needed_by (take 11 d) ≡ needed_by d
unfolding needed_by
needed-first d h = rw (size-first d h)

pub size-in-first : (room : ℕ) (d : List ℕ) → 11 ≤ length d → size_in room (take 11 d) ≡ size_in room d
unfolding size_in
size-in-first room d h = rw (size-first d h)

pub cut-needed : (n : ℕ) (d : List ℕ) → length d ≡ 11 * n → sum_by needed_by (first_chunks 11 n d) ≡ needed n d
unfolding needed
cut-needed zero d e = refl
cut-needed (suc n) d e =
    sum_by-cons needed_by (take 11 d) (first_chunks 11 n (drop 11 d))
    ∙ ap₂ ◌+◌ (needed-first d (omega arith)) (cut-needed n (drop 11 d) (rw length-drop (omega arith)))

needed-by-most : (d : List ℕ) → needed_by d ≤ 69915
unfolding needed_by
needed-by-most d = choice (λ k. 11 + k ≤ 69915) (size_of d is 0) (λ e. omega arith) (λ e. omega (arith, size_small d))

pub needed-most : (rs : List (List ℕ)) → sum_by needed_by rs ≤ 69915 * length rs
needed-most [] = omega arith
needed-most (r ∷ rs) = omega (arith, sum_by-cons needed_by r rs, needed-by-most r, needed-most rs)

-- ---- whether all are records

last-cut : (n : ℕ) (d : List ℕ) → length d ≡ 11 * suc n → is_last (first_chunks 11 n (drop 11 d)) ≡ (length d is 11)
last-cut zero d e = sym (eq-eqb (length d) 11 (omega arith))
last-cut (suc n) d e = sym (ne_eqb (length d) 11 (λ z. omega arith))

pub cut-records : (n k : ℕ) (d : List ℕ) → length d ≡ 11 * n → n ≤ k → are_records (first_chunks 11 n d) ≡ is_records k d
unfolding are_records is_records
cut-records zero zero d e h = rw (← nothing d (omega arith))
cut-records zero (suc k) d e h = rw (← nothing d (omega arith))
cut-records (suc n) zero d e h = absurd (omega arith)
cut-records (suc n) (suc k) [] e h = absurd (omega arith)
cut-records (suc n) (suc k) (x ∷ l) e h =
    let d = x ∷ l in
    rw (
      le-leb 11 (length d) (omega arith),
      last-cut n d e,
      record-first d (omega arith) (length d is 11),
      cut-records n k (drop 11 d) (rw length-drop (omega arith)) (omega arith),
    )

-- records are 11 bytes each
pub records-long : (n : ℕ) (d : List ℕ) → Records n d → length d ≡ 11 * n
records-long zero d r = omega (arith, r)
records-long (suc n) d r = omega (arith, r.0, length-drop 11 d, records-long n (drop 11 d) r.2)

-- what all records are
pub listed-long : (d : List ℕ) → is_records FILES d ≡ true → (length d ≡ 11 * (length d / 11)) × (length d / 11 ≤ 64)
listed-long d e = let r = records-of FILES d e in (records-long (records_in d) d r.1, r.0)
