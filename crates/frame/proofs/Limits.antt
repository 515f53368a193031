-- The limits of a form: blocks within them are within them without those behind or before, and no form takes more than 24,576 bytes.
use mathlib.Core.Path.{◌≡◌, refl}
use mathlib.Core.Bool.{true, false}
use mathlib.Core.List.{List, [], ◌∷◌, ◌++◌}
use Prim.Native.Nat.{ℕ, ◌+◌, ◌≤◌}
use native.Mathlib.Omega.{arith}
use native.Mathlib.Nat.{not-suc-le-zero}
use lib.Dec.{lit≤}
use lib.ListN.{length, length-append}
use borrow.Author.Tests.{ltb-false, le-ltb}
use Rattle.std.specs.Prelude.{if◌then◌else◌}
use Rattle.octets.specs.Choice.{◌is◌, ◌<?◌}
use Rattle.octets.specs.Hex.{in_hex4}
use Rattle.octets.specs.Bytes.{TRANSLATED, BLOCKS}
use Rattle.octets.proofs.Tests.{choice, or-out-left, or-out-right}
use Rattle.body.specs.Body.{Block}
use Rattle.forms.specs.Forms.{plain_rest, plain_body, summed_body, body_in, form_of, render}
use Rattle.writing.specs.Output.{is_over}
use Rattle.forms.proofs.PieceLaws.{escape-length}

-- within the limits
pub record Within (k : ℕ) (h : List ℕ) (bs : List Block) : Type 0 where
  pub few : length bs ≤ 64
  pub short : length (form_of k h bs) ≤ 8192

-- what is not over the limits is within
pub within : (k : ℕ) (h : List ℕ) (bs : List Block) → is_over k h bs ≡ false → Within k h bs
unfolding is_over
within k h bs v =
    let long = TRANSLATED <? length (form_of k h bs) in
    let many = BLOCKS <? length bs in
    record {
      few = ltb-false 64 (length bs) (or-out-left many long v);
      short = ltb-false 8192 (length (form_of k h bs)) (or-out-right many long v);
    }

-- and the other way round
pub not-over : (k : ℕ) (h : List ℕ) (bs : List Block) → Within k h bs → is_over k h bs ≡ false
unfolding is_over
not-over k h bs w = rw (le-ltb 64 (length bs) w.few, le-ltb 8192 (length (form_of k h bs)) w.short)

-- ---- lengths

-- a way to write blocks, each of them so many bytes, and one byte at the end
module _ (w : List Block → List ℕ) (size : Block → ℕ) (end : length (w []) ≡ 1)
    (next : (b : Block) (bs : List Block) → length (w (b ∷ bs)) ≡ size b + length (w bs)) where
  length_both : (bs cs : List Block) → length (w (bs ++ cs)) + 1 ≡ length (w bs) + length (w cs)
  length_both [] cs = omega (arith, end)
  length_both (b ∷ bs) cs = omega (arith, next b bs, next b (bs ++ cs), length_both bs cs)

rest-next : (b : Block) (bs : List Block) → length (plain_rest (b ∷ bs)) ≡ 3 + length b.text + length (plain_rest bs)
unfolding plain_rest
rest-next b bs = simp length-append (omega arith)

summed-next : (b : Block) (bs : List Block) → length (summed_body (b ∷ bs)) ≡ 7 + length b.text + length (summed_body bs)
unfolding summed_body in_hex4
summed-next b bs = simp length-append (omega arith)

rest_both : (bs cs : List Block) → length (plain_rest (bs ++ cs)) + 1 ≡ length (plain_rest bs) + length (plain_rest cs)
rest_both = length_both plain_rest (λ b. 3 + length b.text) (unfold plain_rest in refl) rest-next

summed-both : (bs cs : List Block) → length (summed_body (bs ++ cs)) + 1 ≡ length (summed_body bs) + length (summed_body cs)
summed-both = length_both summed_body (λ b. 7 + length b.text) (unfold summed_body in refl) summed-next

plain-rest : (bs : List Block) → 1 ≤ length bs → length (plain_rest bs) ≡ 1 + length (plain_body bs)
unfolding plain_rest plain_body
plain-rest [] a = absurd (not-suc-le-zero a)
plain-rest (b ∷ bs) a = omega arith

body-some : (k : ℕ) (bs : List Block) → 1 ≤ length (body_in k bs)
unfolding body_in plain_body summed_body
body-some k [] = choice (λ (l : List ℕ). 1 ≤ length l) (k is 1) (λ e. lit≤ tt) (λ e. lit≤ tt)
body-some k (b ∷ bs) = choice (λ (l : List ℕ). 1 ≤ length l) (k is 1) (λ e. omega arith) (λ e. omega arith)

-- fewer blocks and a shorter body
over-less : (k : ℕ) (h : List ℕ) (bs cs : List Block) → length bs ≤ length cs → length (body_in k bs) ≤ length (body_in k cs)
    → is_over k h cs ≡ false → is_over k h bs ≡ false
over-less k h bs cs n m v =
    let w = within k h cs v in
    let l : length (form_of k h bs) ≤ length (form_of k h cs) = unfold form_of in simp length-append (omega arith) in
    not-over k h bs (record { few = omega (arith, w.few); short = omega (arith, w.short) })

module _ (k : ℕ) (bs cs : List Block) (a : 1 ≤ length bs) (b : 1 ≤ length cs) where
  -- two bodies, and one of all their blocks
  body-both : length (body_in k bs) + length (body_in k cs) ≤ length (body_in k (bs ++ cs)) + 1
  unfolding body_in
  body-both =
      let c : 1 ≤ length (bs ++ cs) = rw length-append (omega arith) in
      elim (k is 1) as
      (λ t. length (if t then plain_body bs else summed_body bs) + length (if t then plain_body cs else summed_body cs)
      ≤ length (if t then plain_body (bs ++ cs) else summed_body (bs ++ cs)) + 1) [
        | true ↦ omega (arith, rest_both bs cs, plain-rest bs a, plain-rest cs b, plain-rest (bs ++ cs) c)
        | false ↦ omega (arith, summed-both bs cs)
      ]

  -- blocks within the limits are so without those behind
  pub over_first : (h : List ℕ) → is_over k h (bs ++ cs) ≡ false → is_over k h bs ≡ false
  over_first h = over-less k h bs (bs ++ cs) (rw length-append (omega arith)) (omega (arith, body-both, body-some k cs))

  -- and without those before
  pub over-second : (h : List ℕ) → is_over k h (bs ++ cs) ≡ false → is_over k h cs ≡ false
  over-second h = over-less k h cs (bs ++ cs) (rw length-append (omega arith)) (omega (arith, body-both, body-some k bs))

-- ---- the bytes of a form

-- within the limits a form takes at most 24,576 bytes
pub render-length : (k : ℕ) (h : List ℕ) (bs : List Block) → is_over k h bs ≡ false → length (render k h bs) ≤ 24576
unfolding render
render-length k h bs v =
    let w = within k h bs v in
    choice (λ (l : List ℕ). length l ≤ 24576) (k is 3)
    (λ e. omega (arith, w.short, escape-length (form_of k h bs))) (λ e. omega (arith, w.short))
