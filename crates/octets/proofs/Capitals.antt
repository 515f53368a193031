-- Laws of capitals: the bytes of a list as capitals, and the digits that a frame carries.
use mathlib.Core.Path.{◌≡◌, refl, sym, ap, ◌∙◌, subst}
use mathlib.Core.Bool.{Bool, true, false, ◌||◌}
use mathlib.Core.List.{List, [], ◌∷◌, ◌++◌}
use Prim.Native.Nat.{ℕ, zero, suc, ◌-◌, ◌/◌, ◌%◌, ◌<◌, ◌≤◌}
use native.Mathlib.Omega.{arith}
use borrow.Author.Rules.{rules}
use borrow.Author.Tests.{le-leb, lt-leb, leb-true, lt-ltb, ne_eqb}
use lib.ListN.{length, drop}
use Rattle.octets.specs.Choice.{◌is◌, ◌≤?◌, between, ◌!◌}
use Rattle.octets.specs.Hex.{digit, value, is_hex, is_hex4, hex4, in_hex4}
use Rattle.octets.specs.Carried.{is_small, capital, capitals, is_carried, is_carried4, carried4}
use Rattle.octets.specs.InnerDigits.{two, two_of, four, four_of}
use Rattle.octets.proofs.Spots.{tail-whole}
use Rattle.octets.proofs.Tests.{compare, by-test, and_right, or-none}
use Rattle.octets.proofs.Digits.{digit-most, two-told, four-told, is_hex4-in_hex4, hex4-in_hex4}

-- ---- a byte

module _ (x : ℕ) where
  pub capital-small : 97 ≤ x → x < 103 → x - 32 ≡ capital x
  unfolding capital
  capital-small a b = simp (le-leb 97 x a, le-leb x 102 (omega arith))

  pub capital-below : x < 97 → x ≡ capital x
  unfolding capital
  capital-below h = simp (lt-leb 97 x h)

  -- a byte that is no small letter
  pub capital-other : is_small x ≡ false → capital x ≡ x
  unfolding capital
  capital-other e = rw e

  pub capital-above : 103 ≤ x → x ≡ capital x
  unfolding capital
  capital-above h = simp (le-leb 97 x (omega arith), lt-leb x 102 h)

module _ (x : ℕ) where
  -- what holds of a capital, and of a byte that is no small letter
  pub by-capital : (P : ℕ → Type 0) → (97 ≤ x → x < 103 → P (x - 32)) → (x < 97 → P x) → (103 ≤ x → P x) → P (capital x)
  by-capital P f g h =
      compare x 97 (λ a. subst P (capital-below x a) (g a))
      (λ a. compare x 103 (λ b. subst P (capital-small x a b) (f a b)) (λ b. subst P (capital-above x b) (h b)))

  -- a capital is no small letter
  pub capital-not-small : is_small (capital x) ≡ false
  capital-not-small =
      by-capital (λ y. is_small y ≡ false)
      (λ a b. rw (lt-leb 97 (x - 32) (omega arith))) (λ a. rw (lt-leb 97 x a)) (λ a. rw (le-leb 97 x (omega arith), lt-leb x 102 a))

  -- so it is its own
  pub capital-again : capital (capital x) ≡ capital x
  capital-again = capital-other (capital x) capital-not-small

  -- no byte below the letters comes of another
  pub capital-is : (k : ℕ) → k < 65 → (capital x is k) ≡ (x is k)
  capital-is k h =
      by-capital (λ y. (y is k) ≡ (x is k))
      (λ a b. ne_eqb (x - 32) k (λ e. omega arith) ∙ sym (ne_eqb x k (λ e. omega arith))) (λ a. refl) (λ a. refl)

-- ---- the ranges of digits

within : (lo hi x : ℕ) → between lo hi x ≡ true → x ≤ hi
within lo hi x e = leb-true x hi (and_right (lo ≤? x) (x ≤? hi) e)

hex-ranges : (x : ℕ) → is_hex x ≡ (between 0x30 0x39 x || between 0x41 0x46 x)
unfolding value
hex-ranges x =
    by-test (between 0x30 0x39 x) (λ e. rw (e, lt-ltb (x - 0x30) 16 (omega (arith, within 0x30 0x39 x e)))) (λ e.
    by-test (between 0x41 0x46 x) (λ f. rw (e, f, lt-ltb (x - 0x37) 16 (omega (arith, within 0x41 0x46 x f)))) (λ f. rw (e, f)))

-- figures, capitals, small letters
carried-ranges : (x : ℕ) → ((between 0x30 0x39 x || between 0x41 0x46 x) || is_small x) ≡ is_carried x
carried-ranges x =
    by-capital x (λ y. ((between 0x30 0x39 x || between 0x41 0x46 x) || is_small x) ≡ is_hex y)
    (λ a b.
    rw (hex-ranges (x - 32), le-leb 0x30 x (omega arith), lt-leb x 0x39 (omega arith), le-leb 0x41 x (omega arith), lt-leb x 0x46 (omega arith))
    (rw (
      le-leb 0x61 x a,
      le-leb x 0x66 (omega arith),
      le-leb 0x30 (x - 32) (omega arith),
      lt-leb (x - 32) 0x39 (omega arith),
      le-leb 0x41 (x - 32) (omega arith),
      le-leb (x - 32) 0x46 (omega arith),
    )))
    (λ a. rw (hex-ranges x, lt-leb 0x61 x a) (or-none (between 0x30 0x39 x || between 0x41 0x46 x)))
    (λ a. rw (hex-ranges x, le-leb 0x61 x (omega arith), lt-leb x 0x66 a) (or-none (between 0x30 0x39 x || between 0x41 0x46 x)))

pub carried-told : (x : ℕ) (a b c : Bool) → a ≡ between 0x30 0x39 x → b ≡ between 0x41 0x46 x → c ≡ is_small x → ((a || b) || c) ≡ is_carried x
carried-told x a b c p q r = rw (p, q, r) (carried-ranges x)

-- the digits that we write are capitals
pub capital-digit : (n : ℕ) → n < 16 → capital (digit n) ≡ digit n
capital-digit n h = sym (capital-below (digit n) (omega (arith, digit-most n h)))

-- ---- a list

capitals-length : (l : List ℕ) → length (capitals l) ≡ length l
unfolding capitals
capitals-length [] = refl
capitals-length (x ∷ l) = ap suc (capitals-length l)

-- a byte that is missing is its own capital
pub capitals-at : (l : List ℕ) (i : ℕ) → capitals l ! i ≡ capital (l ! i)
unfolding capitals capital
capitals-at [] i = refl
capitals-at (x ∷ l) zero = refl
capitals-at (x ∷ l) (suc i) = capitals-at l i

capitals-drop : (i : ℕ) (l : List ℕ) → capitals (drop i l) ≡ drop i (capitals l)
unfolding capitals
capitals-drop zero l = refl
capitals-drop (suc i) [] = refl
capitals-drop (suc i) (x ∷ l) = capitals-drop i l

-- ---- digits in a frame, as the code tells them

pub carried-two-told : (l : List ℕ) → two_of (value (capital (l ! 0))) (value (capital (l ! 1))) ≡ two (capitals l)
carried-two-told l = rw (← capitals-at l 0, ← capitals-at l 1) (two-told (capitals l))

pub carried-four-told : (l : List ℕ)
    → four_of (value (capital (l ! 0))) (value (capital (l ! 1))) (value (capital (l ! 2))) (value (capital (l ! 3))) ≡ four (capitals l)
carried-four-told l = rw (← capitals-at l 0, ← capitals-at l 1, ← capitals-at l 2, ← capitals-at l 3) (four-told (capitals l))

pub ruleset carried =
    (capital-small, capital-below, capital-above, carried-told, carried-two-told, carried-four-told, tail-whole, rules)

-- ---- four digits that we write, and then l, as a frame carries them

module _ (v : ℕ) (h : v < 65536) (l : List ℕ) where
  written : capitals (in_hex4 v ++ l) ≡ in_hex4 v ++ capitals l
  unfolding capitals in_hex4
  written =
      rw (
        capital-digit (v / 4096) (omega arith),
        capital-digit (v / 256 % 16) (omega arith),
        capital-digit (v / 16 % 16) (omega arith),
        capital-digit (v % 16) (omega arith),
      )

  pub is_carried4-in_hex4 : is_carried4 (in_hex4 v ++ l) ≡ true
  is_carried4-in_hex4 = ap is_hex4 written ∙ is_hex4-in_hex4 v h (capitals l)

  pub carried4-in_hex4 : carried4 (in_hex4 v ++ l) ≡ v
  carried4-in_hex4 = ap hex4 written ∙ hex4-in_hex4 v h (capitals l)
