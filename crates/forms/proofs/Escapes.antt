-- The bytes of a list that form 3 carries as escapes, counted, and those of a good body: they are those of its blocks.
use mathlib.Core.Path.{◌≡◌, refl, sym, ap, ◌∙◌}
use mathlib.Core.Bool.{Bool, true, false, ◌&&◌, ◌||◌}
use mathlib.Core.List.{List, [], ◌∷◌}
use Prim.Native.Nat.{ℕ, zero, suc, ◌+◌, ◌<◌}
use native.Mathlib.Omega.{arith}
use borrow.Author.Tests.{eqb-true, leb-true, le-leb, lt-leb}
use lib.Dec.{lit<}
use lib.ListN.{length, drop}
use Rattle.octets.specs.Choice.{◌is◌, ◌!◌, between, front, behind}
use Rattle.octets.specs.Hex.{is_hex, is_hex4}
use Rattle.octets.specs.Carried.{capitals, is_carried, is_carried4, carried4}
use Rattle.octets.specs.InnerCounts.{count}
use Rattle.octets.specs.Bytes.{STX, ETX, EOT, BLOCKS, is_plain}
use Rattle.octets.proofs.Counts.{count_same}
use Rattle.octets.proofs.Tests.{choice, by-test, never, and_left, and_right, and_none, split}
use Rattle.octets.proofs.Spots.{drop-on, there}
use Rattle.octets.proofs.Capitals.{capitals-at}
use Rattle.header.proofs.Texts.{is_text, text-low, text-high, digit-text}
use Rattle.body.specs.Sum.{checksum}
use Rattle.body.specs.Body.{Block, block, Step, stray, more, last, Body, bad_body, body}
use Rattle.body.specs.Body.{is_end, follow, after_etx, after_data, block_at, prepend, onward, blocks}
use Rattle.body.specs.Steps.{blocks_in, is_body, body_at, blocks_at}
use Rattle.forms.specs.Forms.{is_itself}
use Rattle.forms.specs.InnerLengths.{is_escaped, escapes, block_escapes}

-- ---- a byte

-- one that a header may hold stands for itself
pub text-itself : (x : ℕ) → is_text x ≡ true → is_itself x ≡ true
unfolding is_text is_itself
text-itself x e =
    rw (le-leb 0x20 x (omega (arith, text-low x e)), le-leb x 0x7E (omega (arith, text-high x e)), (split (between 0x21 0x7A x) e).1)

-- so does a digit: it is no escape
digit-none : (x : ℕ) → is_carried x ≡ true → is_escaped x ≡ false
unfolding is_escaped
digit-none x e = rw (text-itself x (digit-text x e)) (and_none (is_plain x) refl)

-- nor is a control byte
pub control-none : (x : ℕ) → x < 5 → is_escaped x ≡ false
unfolding is_escaped is_plain
control-none x h = rw (lt-leb 5 x h)

-- ---- the bytes of a body

-- a byte that is none, or is missing, may be left out
pass-at : (i : ℕ) (l : List ℕ) → is_escaped (l ! i) ≡ false → escapes (drop i l) ≡ escapes (drop (suc i) l)
pass-at zero [] e = refl
pass-at zero (x ∷ l) e = count_same is_escaped x l e
pass-at (suc i) [] e = refl
pass-at (suc i) (x ∷ l) e = pass-at i l e

-- the front of a list and what is behind it
escapes-front : (p : ℕ → Bool) (l : List ℕ) → escapes l ≡ escapes (front p l) + escapes (behind p l)
unfolding count front behind
escapes-front p [] = refl
escapes-front p (x ∷ l) =
    by-test (p x)
    (λ e. rw e
    (by-test (is_escaped x) (λ t. rw t (omega (arith, escapes-front p l))) (λ t. rw t (escapes-front p l))))
    (λ e. rw e (omega arith))

-- EOT, the very last byte
end_none : (l : List ℕ) → is_end l ≡ true → escapes l ≡ 0
unfolding count
end_none [] e = refl
end_none (x ∷ []) e = count_same is_escaped x [] (rw (eqb-true x EOT (and_left (x is EOT) true e)) (control-none EOT (lit< tt)))
end_none (x ∷ y ∷ l) e =
    absurd (omega (arith, eqb-true (length (x ∷ y ∷ l)) 1 (and_right (x is EOT) (length (x ∷ y ∷ l) is 1) e)))

-- a control byte in front
at-control : (l : List ℕ) (x : ℕ) → x < 5 → (l ! 0 is x) ≡ true → is_escaped (l ! 0) ≡ false
at-control l x h e = rw (eqb-true (l ! 0) x e) (control-none x h)

-- a digit of a sum
carried-at : (l : List ℕ) (i : ℕ) → is_hex (capitals l ! i) ≡ true → is_escaped (l ! i) ≡ false
carried-at l i e = digit-none (l ! i) (rw (← capitals-at l i) e)

-- the four digits of a sum
sum-none : (l : List ℕ) → is_carried4 l ≡ true → escapes l ≡ escapes (drop 4 l)
unfolding is_hex4
sum-none l e =
    let k = capitals l in
    let a = split (is_hex (k ! 0)) e in
    let b = split (is_hex (k ! 1)) a.1 in
    let c = split (is_hex (k ! 2)) b.1 in
    pass-at 0 l (carried-at l 0 a.0) ∙ pass-at 1 l (carried-at l 1 b.0) ∙ pass-at 2 l (carried-at l 2 c.0) ∙ pass-at 3 l (carried-at l 3 c.1)

-- the escapes of a block
abbrev within : Block → ℕ
within b = escapes (b.command ∷ b.text)

-- n are those of a block and of the bytes behind it
abbrev StepHas : ℕ → Step → Type 0
StepHas n stray = Unit {0}
StepHas n (more b l) = n ≡ within b + escapes l
StepHas n (last b) = n ≡ within b

-- n are those of a body's blocks
abbrev BodyHas : ℕ → Body → Type 0
BodyHas n bad_body = Unit {0}
BodyHas n (body bs) = n ≡ block_escapes bs

follow-has : (b : Block) (l : List ℕ) → StepHas (within b + escapes l) (follow b l)
unfolding follow
follow-has b l =
    let n = within b + escapes l in
    choice (StepHas n) (l ! 0 is STX) (λ e. refl)
    (λ e. choice (StepHas n) (is_end l) (λ f. omega (arith, end_none l f)) (λ f. tt))

module _ (c : ℕ) (d : List ℕ) where
  etx-has : (l : List ℕ) → StepHas (escapes (c ∷ d) + escapes l) (after_etx c d l)
  unfolding after_etx
  etx-has l =
      let n = escapes (c ∷ d) + escapes l in
      choice (StepHas n) (l ! 0 is STX || l ! 0 is EOT) (λ e. follow-has (block c d true) l)
      (λ e.
      choice (StepHas n) (is_carried4 l)
      (λ f. rw (sum-none l f) (follow-has (block c d (carried4 l is checksum c d)) (drop 4 l)))
      (λ f. tt))

  data-has : (l : List ℕ) → StepHas (escapes (c ∷ d) + escapes l) (after_data c d l)
  unfolding after_data
  data-has l =
      let n = escapes (c ∷ d) + escapes l in
      choice (StepHas n) (l ! 0 is ETX) (λ e. rw (pass-at 0 l (at-control l ETX (lit< tt) e)) (etx-has (drop 1 l)))
      (λ e. choice (StepHas n) (is_end l) (λ f. omega (arith, end_none l f)) (λ f. tt))

-- the bytes behind a plain one, and it
plain-on : (l : List ℕ) → is_plain (l ! 1) ≡ true → drop 1 l ≡ l ! 1 ∷ drop 2 l
unfolding is_plain
plain-on l e = drop-on l 1 (there l 1 (omega (arith, leb-true 5 (l ! 1) e)))

-- a byte in front of both parts of a list
escapes-behind : (c : ℕ) (l : List ℕ) → escapes (c ∷ l) ≡ escapes (c ∷ front is_plain l) + escapes (behind is_plain l)
unfolding count
escapes-behind c l =
    by-test (is_escaped c) (λ t. rw t (omega (arith, escapes-front is_plain l))) (λ t. rw t (escapes-front is_plain l))

block-has : (l : List ℕ) → StepHas (escapes l) (block_at l)
unfolding block_at
block-has l =
    let c = l ! 1 in
    let rest = drop 2 l in
    choice (StepHas (escapes l)) (l ! 0 is STX && is_plain c)
    (λ e.
    let p = split (l ! 0 is STX) e in
    let z : escapes l ≡ escapes (c ∷ front is_plain rest) + escapes (behind is_plain rest) =
    pass-at 0 l (at-control l STX (lit< tt) p.0) ∙ ap escapes (plain-on l p.1) ∙ escapes-behind c rest in
    rw z (data-has c (front is_plain rest) (behind is_plain rest)))
    (λ e. tt)

prepend-has : (n : ℕ) (b : Block) (x : Body) → BodyHas n x → BodyHas (within b + n) (prepend b x)
unfolding prepend block_escapes
prepend-has n b bad_body g = tt
prepend-has n b (body bs) g = omega (arith, g)

onward-has : (n : ℕ) (s : Step) (f : List ℕ → Body) → StepHas n s → ((l : List ℕ) → BodyHas (escapes l) (f l)) → BodyHas n (onward s f)
unfolding onward block_escapes
onward-has n stray f g k = tt
onward-has n (more b l) f g k = rw g (prepend-has (escapes l) b (f l) (k l))
onward-has n (last b) f g k = omega (arith, g)

blocks-has : (n : ℕ) (l : List ℕ) → BodyHas (escapes l) (blocks n l)
unfolding blocks
blocks-has zero l = tt
blocks-has (suc n) l = onward-has (escapes l) (block_at l) (λ x. blocks n x) (block-has l) (λ x. blocks-has n x)

body_has : (n : ℕ) (x : Body) → BodyHas n x → is_body x ≡ true → n ≡ block_escapes (blocks_in x)
unfolding is_body blocks_in
body_has n bad_body g e = never (sym e)
body_has n (body bs) g e = g

-- the escapes among the bytes of a good body are those of its blocks' commands and data
pub escapes-body : (s : List ℕ) (from : ℕ) → body_at s from ≡ true → escapes (drop from s) ≡ block_escapes (blocks_at s from)
unfolding body_at blocks_at
escapes-body s from e = body_has (escapes (drop from s)) (blocks BLOCKS (drop from s)) (blocks-has BLOCKS (drop from s)) e
