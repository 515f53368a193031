-- A printable text without a fault, and how many bytes it stands for, told from each place by itself.
use mathlib.Core.Path.{◌≡◌, refl, sym, ap, ◌∙◌}
use mathlib.Core.Bool.{Bool, true, false, not, ◌&&◌, ◌||◌}
use mathlib.Core.List.{List, [], ◌∷◌}
use Prim.Native.Nat.{ℕ, zero, suc, ◌+◌, ◌-◌, ◌*◌, ◌<◌, ◌≤◌}
use native.Mathlib.Omega.{arith}
use Rattle.std.proofs.Common.{Bor}
use borrow.Author.Rules.{rules}
use borrow.Author.Tests.{eqb-true, le-leb, not-true, not-false}
use lib.ListN.{length, drop, drop_of_length-le}
use Rattle.std.specs.Prelude.{Some, None, cond, count_by}
use Rattle.std.proofs.lemmas.List.Sums.{sum_by-cons}
use Rattle.octets.specs.Choice.{◌is◌, ◌isn't◌, ◌!◌, between}
use Rattle.octets.specs.Hex.{value, is_hex2}
use Rattle.octets.specs.Carried.{capitals, is_carried, is_carried2, carried2}
use Rattle.octets.specs.Bytes.{ESCAPE}
use Rattle.octets.proofs.Capitals.{capitals-at}
use Rattle.octets.proofs.Spots.{drop-on, head_at, get_at}
use Rattle.octets.proofs.Tests.{by-test, never, split, and_none, and_assoc, and-some}
use Rattle.header.proofs.Texts.{is_text, text-low, text-high, digit-text}
use Rattle.reading.specs.Translation.{Translation, untranslated, translated, push, translate_from, translate}
use Rattle.reading.specs.Places.{bytes_of}
use Rattle.reading.specs.InnerParts.{may_stand, all_stand, is_mark, counted, is_whole}
use Rattle.reading.proofs.Translating.{whole-push, bytes-push}

-- ---- "_" are counted

module _ (x : ℕ) (l : List ℕ) where
  marked-more : x is ESCAPE ≡ true → count_by is_mark (x ∷ l) ≡ suc (count_by is_mark l)
  marked-more e = sum_by-cons (λ y. cond (is_mark y) 1 0) x l ∙ rw e (omega arith)

  marked_same : x is ESCAPE ≡ false → count_by is_mark (x ∷ l) ≡ count_by is_mark l
  marked_same e = sum_by-cons (λ y. cond (is_mark y) 1 0) x l ∙ rw e (omega arith)

-- ---- a digit behind "_"

module _ (x : ℕ) (e : is_carried x ≡ true) where
  unmarked-digit : x is ESCAPE ≡ false
  unfolding is_text
  unmarked-digit = not-true (x is ESCAPE) (split (between 0x21 0x7A x) (digit-text x e)).1

  -- it may stand anywhere
  digit-stands : (l : List ℕ) → may_stand x l ≡ true
  unfolding may_stand
  digit-stands l =
      rw (le-leb 0x20 x (omega (arith, text-low x (digit-text x e))), le-leb x 0x7E (omega (arith, text-high x (digit-text x e))), unmarked-digit)

-- two of them: what stands behind them decides
record Passed (l : List ℕ) : Type 0 where
  long : length l ≡ 2 + length (drop 2 l)
  stand : all_stand l ≡ all_stand (drop 2 l)
  marks : count_by is_mark l ≡ count_by is_mark (drop 2 l)

two_digits : (l : List ℕ) → is_carried2 l ≡ true → Passed l
unfolding is_hex2 capitals value all_stand
two_digits [] e = never (sym e)
two_digits (x ∷ []) e = never (sym (split (is_carried x) e).1)
two_digits (x ∷ y ∷ l) e =
    let w = split (is_carried x) e in
    record {
      long = omega arith;
      stand = rw (digit-stands x w.0 (y ∷ l), digit-stands y w.1 l);
      marks = marked_same x (y ∷ l) (unmarked-digit x w.0) ∙ marked_same y l (unmarked-digit y w.1);
    }

-- ---- a whole text

-- a translation of a text l
record Told (t : Translation) (l : List ℕ) : Type 0 where
  whole : is_whole t ≡ all_stand l
  long : is_whole t ≡ true → length (bytes_of t) + 2 * count_by is_mark l ≡ length l

module _ (x : ℕ) (l : List ℕ) where
  -- "_" and two digits
  told-escape : x is ESCAPE ≡ true → is_carried2 l ≡ true → (b : ℕ) (t : Translation) → Told t (drop 2 l) → Told (push b t) (x ∷ l)
  unfolding all_stand may_stand
  told-escape e f b t h =
      let g = two_digits l f in
      let a : between 0x20 0x7E x ≡ true = rw (eqb-true x ESCAPE e) refl in
      record {
        whole = whole-push b t ∙ h.whole ∙ rw (a, e, f) (sym g.stand);
        long = λ w.
            let z : is_whole t ≡ true = sym (whole-push b t) ∙ w in
            omega (arith, ap length (bytes-push b t z), h.long z, g.marks, g.long, marked-more x l e);
      }

  -- "_" without them
  told-bad : x is ESCAPE ≡ true → is_carried2 l ≡ false → Told untranslated (x ∷ l)
  unfolding all_stand may_stand is_whole
  told-bad e f = record { whole = rw (e, f) (sym (rw (and_none (between 0x20 0x7E x) refl))); long = λ w. never (sym w) }

  -- a byte that stands for itself
  told-itself : x is ESCAPE ≡ false → between 0x20 0x7E x ≡ true → (t : Translation) → Told t l → Told (push x t) (x ∷ l)
  unfolding all_stand may_stand
  told-itself e f t h =
      record {
        whole = whole-push x t ∙ h.whole ∙ rw (e, f) refl;
        long = λ w.
            let z : is_whole t ≡ true = sym (whole-push x t) ∙ w in
            omega (arith, ap length (bytes-push x t z), h.long z, marked_same x l e);
      }

  -- another
  told-outside : between 0x20 0x7E x ≡ false → Told untranslated (x ∷ l)
  unfolding all_stand may_stand is_whole
  told-outside f = record { whole = rw f refl; long = λ w. never (sym w) }

told : (k : ℕ) (l : List ℕ) → Told (translate_from k l) (drop k l)
unfolding translate_from all_stand is_whole bytes_of
told zero [] = record { whole = refl; long = λ w. refl }
told (suc k) [] = record { whole = refl; long = λ w. refl }
told (suc k) (x ∷ l) = told k l
told zero (x ∷ l) =
    by-test (x is ESCAPE)
    (λ e. by-test (is_carried2 l) (λ f. rw (e, f) (told-escape x l e f (carried2 l) (translate_from 2 l) (told 2 l))) (λ f. rw (e, f) (told-bad x l e f)))
    (λ e. by-test (between 0x20 0x7E x) (λ f. rw (e, f) (told-itself x l e f (translate_from 0 l) (told 0 l))) (λ f. rw (e, f) (told-outside x l f)))

none-counted : (t : Translation) → is_whole t ≡ false → None ≡ counted t
unfolding is_whole counted
none-counted untranslated e = refl
none-counted (translated t) e = never e

all-counted : (t : Translation) → is_whole t ≡ true → (n : ℕ) → n ≡ length (bytes_of t) → Some n ≡ counted t
unfolding is_whole counted bytes_of
all-counted untranslated w n e = never (sym w)
all-counted (translated t) w n e = ap Some e

module _ (s : List ℕ) (b : Bool) (e : b ≡ all_stand s) where
  pub count-faulty : not b ≡ true → None ≡ counted (translate s)
  unfolding translate
  count-faulty f = none-counted (translate_from 0 s) ((told 0 s).whole ∙ sym e ∙ not-true b f)

  module _ (f : not b ≡ false) (m : ℕ) (g : m ≡ count_by is_mark s) where
    all_told : is_whole (translate_from 0 s) ≡ true
    all_told = (told 0 s).whole ∙ sym e ∙ not-false b f

    pub count_room : 2 * m ≤ length s
    count_room = omega (arith, g, (told 0 s).long all_told)

    pub count-good : Some (length s - 2 * m) ≡ counted (translate s)
    unfolding translate
    count-good = all-counted (translate_from 0 s) all_told (length s - 2 * m) (omega (arith, g, (told 0 s).long all_told))

pub ruleset counts = (count-faulty, count_room, count-good, rules)

-- ---- each place

pub stand-at : (s : List ℕ) (i y z : ℕ) → y ≡ s ! (i + 1) → z ≡ s ! (i + 2) → (b : Bool)
    → b ≡ (between 0x20 0x7E (s ! i) && (s ! i isn't ESCAPE || (is_carried y && is_carried z))) → b ≡ may_stand (s ! i) (drop (i + 1) s)
unfolding may_stand is_hex2
stand-at s i y z p q b e =
    let l = drop (i + 1) s in
    let k : i + 1 + 1 ≡ i + 2 = omega arith in
    let u : l ! 0 ≡ s ! (i + 1) = head_at s (i + 1) in
    let v : l ! 1 ≡ s ! (i + 2) = get_at s (i + 1) 1 ∙ ap (λ j. s ! j) k in
    e ∙ rw (p, q, capitals-at l 0, capitals-at l 1, u, v)

-- those before place i are tested
pub record Standing (s : List ℕ) (passed : Bool) (i : ℕ) : Type 0 where
  pub inside : i ≤ length s
  pub tested : (passed && all_stand (drop i s)) ≡ all_stand s

module _ {s : List ℕ} {passed : Bool} {i : ℕ} (g : Standing s passed i) where
  pub stand-next : i < length s → (b : Bool) → b ≡ may_stand (s ! i) (drop (i + 1) s) → Standing s (passed && b) (i + 1)
  unfolding all_stand
  stand-next h b e =
      record {
        inside = omega arith;
        tested =
            and_assoc passed b (all_stand (drop (i + 1) s)) ∙ ap (λ (t : Bool). passed && t) (rw (e, drop-on s i h)) ∙ g.tested;
      }

  pub stand-on : i < length s → (y z : ℕ) → y ≡ s ! (i + 1) → z ≡ s ! (i + 2) → (b : Bool)
      → b ≡ (between 0x20 0x7E (s ! i) && (s ! i isn't ESCAPE || (is_carried y && is_carried z))) → Standing s (passed && b) (i + 1)
  stand-on h y z p q b e = stand-next h b (stand-at s i y z p q b e)

  pub stand-end : length s ≤ i → passed ≡ all_stand s
  unfolding all_stand
  stand-end h = sym (and-some passed refl) ∙ rw (drop_of_length-le s h) at g.tested

pub ruleset standing = (stand-on, stand-end, rules)
