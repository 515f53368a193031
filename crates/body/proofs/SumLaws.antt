-- What holds while bytes in a row are tested and added up, its steps, and the sum of a block.
use Rattle.std.proofs.Common.{◌≡◌, ℕ, ◌+◌, ◌%◌, ◌<◌, ◌≤◌, Bool, true, false, ◌&&◌, List, [], ◌∷◌, ◌++◌, length, drop, sym, refl, ap, ◌∙◌, drop_of_length-le, fold, Result, Ok, Err, rules}
use Rattle.octets.specs.Choice.{all, ◌≤?◌, ◌!◌}
use Rattle.octets.specs.Bytes.{ETX, is_plain}
use Rattle.octets.proofs.Spots.{drop-on}
use Rattle.octets.proofs.Tests.{by-test, and_assoc, and-some}
use Rattle.body.specs.Sum.{sum_from, summed, checksum}
use Rattle.body.specs.InnerWalking.{opening, added_up}

-- the bytes up to place i are tested, and are in the sum
pub record Adding (s : List ℕ) (start : ℕ) (plain : Bool) (sum i : ℕ) : Type 0 where
  pub tests : (plain && all is_plain (drop i s)) ≡ all is_plain s
  pub same : sum_from sum (drop i s) ≡ sum_from start s

pub adding-start : (s : List ℕ) (start : ℕ) → Adding s start true start 0
adding-start s start = record { tests = refl; same = refl }

module _ {s : List ℕ} {start : ℕ} {plain : Bool} {sum i : ℕ} (g : Adding s start plain sum i) where
  pub adding-next : i < length s → (p : Bool) → p ≡ (plain && 5 ≤? s ! i) → (y : ℕ) → y ≡ (sum + s ! i) % 65536 → Adding s start p y (i + 1)
  unfolding sum_from all is_plain
  adding-next h p e y q = record {
    tests = rw e (and_assoc plain (5 ≤? s ! i) (all is_plain (drop (i + 1) s)) ∙ ap (λ l. plain && all is_plain l) (sym (drop-on s i h)) ∙ g.tests);
    same = rw q (ap (sum_from sum) (sym (drop-on s i h)) ∙ g.same);
  }

  module _ (h : length s ≤ i) where
    tested : plain ≡ all is_plain s
    unfolding all
    tested = rw (drop_of_length-le s h, and-some plain refl) at g.tests

    summed-up : sum ≡ sum_from start s
    unfolding sum_from
    summed-up = rw (drop_of_length-le s h) at g.same

    pub adding-all : plain ≡ true → Ok sum ≡ added_up start s
    adding-all e = rw (← tested, e, ← summed-up)

    pub adding-none : plain ≡ false → Err sum ≡ added_up start s
    adding-none e = rw (← tested, e, ← summed-up)

some-is : {a b : ℕ} → ◌≡◌ {A = Result ℕ ℕ} (Ok a) (Ok b) → b ≡ a
some-is e = cc

none-some : {X : Type 0} {a b : ℕ} → ◌≡◌ {A = Result ℕ ℕ} (Err b) (Ok a) → X
none-some e = absurd cc

-- what an answer tells of the bytes
module _ (l : List ℕ) (start : ℕ) where
  pub added-some : (a : ℕ) → added_up start l ≡ Ok a → (all is_plain l ≡ true) × (a ≡ sum_from start l)
  added-some a e = by-test (all is_plain l) (λ p. (p, some-is (rw p at e))) (λ p. none-some (rw p at e))

  pub added-none : (a : ℕ) → added_up start l ≡ Err a → all is_plain l ≡ false
  added-none a e = by-test (all is_plain l) (λ p. none-some (sym (rw p at e))) (λ p. p)

pub sum-append : (a : ℕ) (l m : List ℕ) → sum_from a (l ++ m) ≡ sum_from (sum_from a l) m
unfolding sum_from
sum-append a [] m = refl
sum-append a (x ∷ l) m = sum-append ((a + x) % 65536) l m

folded : (l : List ℕ) (a : ℕ) → fold (λ x y. (x + y) % 65536) a l ≡ sum_from a l
unfolding sum_from
folded [] a = refl
folded (x ∷ l) a = folded l ((a + x) % 65536)

-- STX and the command, then the data, then ETX
pub sum-block : (c : ℕ) (d : List ℕ) (o a r : ℕ) → o ≡ opening c → a ≡ sum_from o d → r ≡ (a + ETX) % 65536 → r ≡ checksum c d
unfolding checksum summed sum_from opening
sum-block c d o a r h e g = rw (g, e, h) (sym (sum-append ((2 + c) % 65536) d (3 ∷ [])))

-- the same of data that were tested
pub sum-added : (c : ℕ) (d : List ℕ) (o a r : ℕ) → o ≡ opening c → added_up o d ≡ Ok a → r ≡ (a + ETX) % 65536 → r ≡ checksum c d
sum-added c d o a r h e g = sum-block c d o a r h (added-some d o a e).1 g

-- and of data that were not
pub sum-fold : (c : ℕ) (d : List ℕ) (o a r : ℕ) → o ≡ opening c → a ≡ fold (λ x y. (x + y) % 65536) o d → r ≡ (a + ETX) % 65536 → r ≡ checksum c d
sum-fold c d o a r h e g = sum-block c d o a r h (e ∙ folded d o) g

pub ruleset summing = (adding-start, adding-next, adding-all, adding-none, sum-added, sum-fold, rules)
