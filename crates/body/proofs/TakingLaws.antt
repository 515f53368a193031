-- A block that is taken, by what the bytes say of it; and the blocks of a good body, taken one behind the other.
use Rattle.std.proofs.Common.{◌≡◌, ℕ, zero, suc, ◌+◌, ◌-◌, ◌<◌, ◌≤◌, Bool, true, false, ◌&&◌, ◌||◌, List, [], ◌∷◌, length, drop, sym, refl, ap, ◌∙◌, subst, arith, drop-drop, rules, ne_eqb, leb-true}
use Rattle.octets.specs.Choice.{◌is◌, ◌!◌, front, behind, part}
use Rattle.octets.specs.Carried.{is_carried4, carried4}
use Rattle.octets.specs.Bytes.{STX, ETX, EOT, BLOCKS, is_plain}
use Rattle.octets.proofs.Spots.{head_at, get_at, there}
use Rattle.octets.proofs.Places.{take-front, drop-front}
use Rattle.octets.proofs.Tests.{choice, and_right, never}
use Rattle.body.specs.Sum.{checksum}
use Rattle.body.specs.Body.{Block, block, Step, stray, more, last, Body, bad_body, body}
use Rattle.body.specs.Body.{is_end, follow, after_etx, after_data, block_at, prepend, onward, blocks}
use Rattle.body.specs.Steps.{blocks_in, is_body, body_at, blocks_at}
use Rattle.body.specs.InnerWalking.{left}
use Rattle.body.specs.InnerTaking.{taken_as, behind_data, taken_at}
use Rattle.body.proofs.WalkLaws.{left-within}

-- ---- the block whose STX stands at place at

-- its data, which end at place to
module _ (s : List ℕ) (at to : ℕ) (e : to ≡ at + 2 + length (left s (at + 2))) where
  -- they end inside
  pub take_in : at + 2 ≤ length s → to ≤ length s
  take_in h = omega (arith, e, left-within s (at + 2))

  -- and are what stands between
  take-text : part (at + 2) to s ≡ left s (at + 2)
  take-text =
      let z : to - (at + 2) ≡ length (left s (at + 2)) = omega arith in
      rw z (take-front is_plain (drop (at + 2) s))

  -- the command byte, the data's end, the sum, and the place behind
  pub take-made : (c : ℕ) → c ≡ s ! (at + 1) → (v : ℕ) → v ≡ checksum c (part (at + 2) to s) → (n : ℕ) → n ≡ behind_data s to
      → taken_as c to v n ≡ taken_at s at
  unfolding taken_at
  take-made c f v q n g =
      let d : List ℕ = left s (at + 2) in
      let sum : v ≡ checksum (s ! (at + 1)) d = q ∙ ap (checksum c) take-text ∙ ap (λ x. checksum x d) f in
      let next : n ≡ behind_data s (at + 2 + length d) = g ∙ ap (behind_data s) e in
      λ i. taken_as (f i) (e i) (sum i) (next i)

pub ruleset takings = (take_in, take-made, rules)

-- ---- the blocks of a good body

-- what is taken at a place is this block, and its data stand inside
pub record Next (s : List ℕ) (at : ℕ) (b : Block) : Type 0 where
  pub command : (taken_at s at).command ≡ b.command
  pub ordered : at + 2 ≤ (taken_at s at).to
  pub inside : (taken_at s at).to ≤ length s
  pub text : part (at + 2) (taken_at s at).to s ≡ b.text
  pub sum : (taken_at s at).sum ≡ checksum b.command b.text

-- these blocks stand one behind the other from a place on
abbrev pub Stand : List ℕ → ℕ → List Block → Type 0
Stand s at [] = Unit {0}
Stand s at (b ∷ bs) = Next s at b × Stand s (taken_at s at).next bs

-- a step's block is the one that is taken, and the next one stands at the place behind it
abbrev Goes : List ℕ → ℕ → Step → Type 0
Goes s at stray = Unit {0}
Goes s at (more b l) = Next s at b × (drop (taken_at s at).next s ≡ l)
Goes s at (last b) = Next s at b

module _ (s : List ℕ) (at : ℕ) (p : is_plain (s ! (at + 1)) ≡ true) where
  -- the data, and where they end
  abbrev text : List ℕ
  text = left s (at + 2)

  abbrev to : ℕ
  to = at + 2 + length text

  -- whatever its sum is
  next-block : (r : Bool) → Next s at (block (s ! (at + 1)) text r)
  unfolding taken_at is_plain
  next-block r =
      let w : at + 1 < length s = there s (at + 1) (omega (arith, leb-true 5 (s ! (at + 1)) p)) in
      record {
        command = refl;
        ordered = omega arith;
        inside = omega (arith, left-within s (at + 2));
        text = take-text s at to refl;
        sum = refl;
      }

  follow-goes : (r : Bool) (k : ℕ) → (taken_at s at).next ≡ k → Goes s at (follow (block (s ! (at + 1)) text r) (drop k s))
  unfolding follow
  follow-goes r k h =
      choice (Goes s at) (drop k s ! 0 is STX) (λ e. (next-block r, ap (λ n. drop n s) h))
      (λ e. choice (Goes s at) (is_end (drop k s)) (λ f. next-block r) (λ f. tt))

  etx-goes : (s ! to is ETX) ≡ true → Goes s at (after_etx (s ! (at + 1)) text (drop (to + 1) s))
  unfolding after_etx taken_at behind_data
  etx-goes h =
      let l = drop (to + 1) s in
      choice (Goes s at) (l ! 0 is STX || l ! 0 is EOT)
      (λ e. follow-goes true (to + 1) (rw (h, rw head_at at e)))
      (λ e.
      choice (Goes s at) (is_carried4 l)
      (λ f.
      let five : to + 5 ≡ to + 1 + 4 = omega arith in
      rw drop-drop (follow-goes (carried4 l is checksum (s ! (at + 1)) text) (to + 1 + 4) (rw (h, rw head_at at e) five)))
      (λ f. tt))

  data-goes : Goes s at (after_data (s ! (at + 1)) text (drop to s))
  unfolding after_data
  data-goes =
      choice (Goes s at) (drop to s ! 0 is ETX) (λ e. rw drop-drop (etx-goes (rw head_at at e)))
      (λ e. choice (Goes s at) (is_end (drop to s)) (λ f. next-block true) (λ f. tt))

block_goes : (s : List ℕ) (at : ℕ) → Goes s at (block_at (drop at s))
unfolding block_at
block_goes s at =
    let l = drop at s in
    let rest : List ℕ = drop (at + 2) s in
    let b : behind is_plain rest ≡ drop (at + 2 + length (front is_plain rest)) s = sym (drop-front is_plain rest) ∙ drop-drop (length (front is_plain rest)) (at + 2) s in
    choice (Goes s at) (l ! 0 is STX && is_plain (l ! 1))
    (λ e.
    let p : is_plain (l ! 1) ≡ true = and_right (l ! 0 is STX) (is_plain (l ! 1)) e in
    rw (drop-drop 2 at s, b, get_at s at 1) (data-goes s at (rw (get_at s at 1) at p)))
    (λ e. tt)

-- a block in front of others that stand behind it
prepend-stand : (s : List ℕ) (at : ℕ) (b : Block) (x : Body) → Next s at b → (is_body x ≡ true → Stand s (taken_at s at).next (blocks_in x))
    → is_body (prepend b x) ≡ true → Stand s at (blocks_in (prepend b x))
unfolding prepend is_body blocks_in
prepend-stand s at b bad_body t f h = never (sym h)
prepend-stand s at b (body bs) t f h = (t, f h)

onward-stand : (s : List ℕ) (at : ℕ) (x : Step) (f : List ℕ → Body) → Goes s at x
    → ((k : ℕ) → is_body (f (drop k s)) ≡ true → Stand s k (blocks_in (f (drop k s)))) → is_body (onward x f) ≡ true
    → Stand s at (blocks_in (onward x f))
unfolding onward is_body blocks_in
onward-stand s at stray f g k h = never (sym h)
onward-stand s at (more b l) f g k h =
    prepend-stand s at b (f l) g.0 (subst (λ y. is_body (f y) ≡ true → Stand s (taken_at s at).next (blocks_in (f y))) g.1 (k (taken_at s at).next)) h
onward-stand s at (last b) f g k h = (g, tt)

-- at most n blocks from a place on, which are a good body, stand there
pub stand : (s : List ℕ) (n at : ℕ) → is_body (blocks n (drop at s)) ≡ true → Stand s at (blocks_in (blocks n (drop at s)))
unfolding blocks is_body
stand s zero at h = never (sym h)
stand s (suc n) at h = onward-stand s at (block_at (drop at s)) (λ l. blocks n l) (block_goes s at) (λ k. stand s n k) h

-- and so do those of a whole body
pub stand-at : (s : List ℕ) (from : ℕ) → body_at s from ≡ true → Stand s from (blocks_at s from)
unfolding body_at blocks_at
stand-at s from h = stand s BLOCKS from h
