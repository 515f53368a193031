-- What holds while a loop goes along slices, and its steps.
use mathlib.Core.Path.{◌≡◌, refl, sym, ap, ◌∙◌}
use mathlib.Core.Bool.{Bool, true, false, ◌&&◌}
use mathlib.Core.List.{List, [], ◌∷◌}
use Prim.Native.Nat.{ℕ, ◌+◌, ◌<◌, ◌≤◌, suc}
use native.Mathlib.Omega.{arith}
use borrow.Author.Rules.{rules}
use lib.ListN.{length, take, drop, drop_of_length-le, length-take, length-drop, length-append}
use lib.Pointwise.{pointwise}
use lib.Dec.{eqb}
use Rattle.octets.specs.Choice.{front, all, same, ◌is◌, ◌!◌, ◌≤?◌}
use Rattle.octets.proofs.Spots.{drop-on, tail-whole}
use Rattle.octets.proofs.Tests.{and-some, and_assoc, and_none}
use Rattle.octets.proofs.Places.{front-split, front_length, front_out, end-go, end-stop, end-out}
use borrow.Author.Tests.{eq-eqb, ne_eqb, le-leb, lt-leb}
use Rattle.octets.specs.Bytes.{is_plain}

-- ---- two slices, byte by byte

-- two lists are the same by the library's test where they are by ours
pub eq-same : (a b : List ℕ) → pointwise eqb a b ≡ same a b
unfolding same
eq-same [] [] = refl
eq-same [] (y ∷ b) = refl
eq-same (x ∷ a) [] = refl
eq-same (x ∷ a) (y ∷ b) = ap (λ t. x is y && t) (eq-same a b)

pub same-long : (a b : List ℕ) → (length a ≡ length b → ⊥) → false ≡ same a b
unfolding same
same-long [] [] h = absurd (h refl)
same-long [] (y ∷ b) h = refl
same-long (x ∷ a) [] h = refl
same-long (x ∷ a) (y ∷ b) h = sym (and_none (x is y) (sym (same-long a b (λ e. h (ap suc e)))))

-- a and b are the same as far as place i
pub record Alike (a b : List ℕ) (i : ℕ) : Type 0 where
  pub long : length a ≡ length b
  pub rest : same (drop i a) (drop i b) ≡ same a b

pub alike-start : (a b : List ℕ) → length a ≡ length b → Alike a b 0
alike-start a b e = record { long = e; rest = refl }

module _ {a b : List ℕ} {i : ℕ} (g : Alike a b i) where
  pub alike-in : i < length a → i < length b
  alike-in h = omega (arith, g.long)

  at_both : i < length a → same (drop i a) (drop i b) ≡ same (a ! i ∷ drop (i + 1) a) (b ! i ∷ drop (i + 1) b)
  at_both h = rw (← drop-on a i h, ← drop-on b i (alike-in h))

  pub alike-not : i < length a → (a ! i ≡ b ! i → ⊥) → false ≡ same a b
  unfolding same
  alike-not h n = sym (rw (ne_eqb (a ! i) (b ! i) n) at (at_both h)) ∙ g.rest

  pub alike-on : i < length a → a ! i ≡ b ! i → Alike a b (i + 1)
  unfolding same
  alike-on h e = record { long = g.long; rest = sym (rw (eq-eqb (a ! i) (b ! i) e) at (at_both h)) ∙ g.rest }

  pub alike_end : length a ≤ i → true ≡ same a b
  unfolding same
  alike_end h =
      let k : length b ≤ i = omega (arith, g.long) in
      rw (drop_of_length-le a h, drop_of_length-le b k) at g.rest

pub ruleset alike = (same-long, alike-start, alike-in, alike-not, alike-on, alike_end, rules)

-- ---- the run of bytes from place i on that pass a test

-- the run is one as far as place k
pub record Running (p : ℕ → Bool) (s : List ℕ) (i k : ℕ) : Type 0 where
  pub ends : k + length (front p (drop k s)) ≡ i + length (front p (drop i s))

pub run-start : (p : ℕ → Bool) (s : List ℕ) (i : ℕ) → Running p s i i
run-start p s i = record { ends = refl }

module _ {p : ℕ → Bool} {s : List ℕ} {i k : ℕ} (g : Running p s i k) where
  pub run_on : k < length s → p (s ! k) ≡ true → Running p s i (k + 1)
  run_on h e = record { ends = sym (end-go p s k h e) ∙ g.ends }

  pub run-stop : k < length s → p (s ! k) ≡ false → k ≡ i + length (front p (drop i s))
  run-stop h e = sym (end-stop p s k h e) ∙ g.ends

  pub run_out : length s ≤ k → k ≡ i + length (front p (drop i s))
  run_out h = sym (end-out p s k h) ∙ g.ends

pub ruleset running = (run-start, run_on, run-stop, run_out, rules)

-- sixteen bytes that all pass, and how many pass behind them
pub front-stride : (p : ℕ → Bool) (l t b : List ℕ) (r : Bool) → r ≡ all p t → r ≡ true → t ≡ take 16 l → b ≡ drop 16 l → length b + 16 ≡ length l
    → length (front p l) ≡ 16 + length (front p b)
front-stride p l t b r e n h k m =
    let a : all p (take 16 l) ≡ true = ap (all p) (sym h) ∙ sym e ∙ n in
    rw k (omega (arith, ap length (front-split p 16 l a), length-append (take 16 l) (front p (drop 16 l)), length-take 16 l, ap length k, m))

pub ruleset fronts = (tail-whole, front_length, front_out, length-drop, rules)

-- bytes 05H to FFH
pub plain : (x : ℕ) → 5 ≤ x → is_plain x ≡ true
unfolding is_plain
plain x h = le-leb 5 x h

pub not_plain : (x : ℕ) → x < 5 → is_plain x ≡ false
unfolding is_plain
not_plain x h = lt-leb 5 x h

-- ---- every byte, without an early end

-- those up to place i are tested
pub record Testing (p : ℕ → Bool) (s : List ℕ) (passed : Bool) (i : ℕ) : Type 0 where
  pub inside : i ≤ length s
  pub tested : (passed && all p (drop i s)) ≡ all p s

pub test-start : (p : ℕ → Bool) (s : List ℕ) → Testing p s true 0
test-start p s = record { inside = omega arith; tested = refl }

module _ {p : ℕ → Bool} {s : List ℕ} {passed : Bool} {i : ℕ} (g : Testing p s passed i) where
  pub test-next : i < length s → (b : Bool) → b ≡ (passed && p (s ! i)) → Testing p s b (i + 1)
  unfolding all
  test-next h b e = record {
    inside = omega arith;
    tested = rw e (and_assoc passed (p (s ! i)) (all p (drop (i + 1) s)) ∙ ap (λ l. passed && all p l) (sym (drop-on s i h)) ∙ g.tested);
  }

  pub test-end : length s ≤ i → passed ≡ all p s
  unfolding all
  test-end h = sym (and-some passed refl) ∙ rw (drop_of_length-le s h) at g.tested

-- for 05H to FFH
pub plain-next : {s : List ℕ} {passed : Bool} {i : ℕ} → Testing is_plain s passed i → i < length s → (b : Bool) → b ≡ (passed && 5 ≤? s ! i) → Testing is_plain s b (i + 1)
unfolding is_plain
plain-next g h b e = test-next g h b e

pub ruleset testing = (test-start, test-next, test-end, rules)
