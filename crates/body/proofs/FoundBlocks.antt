-- What is found at a place, read back: it is the block that the definitions see, it lies inside the bytes, and its data are bytes from 05H up.
-- Then the blocks from a place on, by what is found there: a loop over the blocks goes by these.
use Rattle.std.proofs.Common.{◌≡◌, ℕ, zero, suc, ◌+◌, ◌-◌, ◌<◌, ◌≤◌, Bool, true, ◌&&◌, ◌||◌, List, [], ◌∷◌, length, take, drop, sym, refl, ap, ◌∙◌, subst, arith, length-drop, drop-drop, eqb-true}
use Rattle.octets.specs.Choice.{◌is◌, ◌!◌, front, behind, all}
use Rattle.octets.specs.Carried.{is_carried4, carried4}
use Rattle.octets.specs.Bytes.{STX, ETX, EOT, is_plain}
use Rattle.octets.proofs.Spots.{head_at, there}
use Rattle.octets.proofs.Places.{take-front, drop-front}
use Rattle.octets.proofs.Tests.{choice, and_left}
use Rattle.body.specs.Sum.{checksum}
use Rattle.body.specs.Body.{block, Step, stray, more, last, bad_body, body}
use Rattle.body.specs.Body.{is_end, follow, after_etx, after_data, block_at, prepend, onward, blocks}
use Rattle.body.specs.Steps.{by_places, placed, found_at, data_of, read_back}
use Rattle.body.specs.declared.Placed.{Placed}
use Rattle.body.specs.declared.BlockStep.{BlockStep}
use Rattle.body.specs.declared.BlockStep.TheVariants.{Stray, More, Last}
use Rattle.body.proofs.WellFormed.{anything, all-anything, StepOf, block_of}

-- ---- places

-- what was found at a place of s, read back without places
unfoldable pub step_view : List ℕ → BlockStep → Step
step_view s Stray = stray
step_view s (More b n) = more (read_back s b) (drop n s)
step_view s (Last b) = last (read_back s b)

-- a block's data, and a next block at place n
pub record MoreIn (s : List ℕ) (b : Placed) (n : ℕ) : Type 0 where
  pub ordered : b.from ≤ b.to
  pub ended : b.to ≤ n
  pub within : n < length s

-- the last block's data
pub record LastIn (s : List ℕ) (b : Placed) : Type 0 where
  pub ordered : b.from ≤ b.to
  pub within : b.to < length s

-- a block's data are the bytes from place i on
abbrev TextAt : List ℕ → ℕ → List ℕ → Type 0
TextAt s i d = take (length d) (drop i s) ≡ d

-- a step's parts are where `placed` says
abbrev In : List ℕ → ℕ → Step → Type 0
In s at stray = Unit {0}
In s at (more b l) =
    TextAt s (at + 2) b.text × (drop (length s - length l) s ≡ l) × MoreIn s (by_places (at + 2) b) (length s - length l)
In s at (last b) = TextAt s (at + 2) b.text × LastIn s (by_places (at + 2) b)

-- a byte that is not 0 is inside
stands : (s : List ℕ) (k x : ℕ) → 0 < x → (drop k s ! 0 is x) ≡ true → k < length s
stands s k x h e = there s k (omega (arith, head_at s k, eqb-true (drop k s ! 0) x e))

module _ (s : List ℕ) (at : ℕ) where
  -- d are the data, and what is looked at stands at place k, behind them
  module _ (c : ℕ) (d : List ℕ) (t : TextAt s (at + 2) d) where
    follow-in : (r : Bool) (k : ℕ) → at + 2 + length d ≤ k → In s at (follow (block c d r) (drop k s))
    unfolding follow
    follow-in r k h =
        choice (In s at) (drop k s ! 0 is STX)
        (λ e.
        let w : k < length s = stands s k STX (omega arith) e in
        let z : length s - length (drop k s) ≡ k = rw length-drop (omega arith) in
        (t, rw z refl, rw z (record { ordered = omega arith; ended = h; within = w })))
        (λ e.
        choice (In s at) (is_end (drop k s))
        (λ f.
        let w : k < length s = stands s k EOT (omega arith) (and_left (drop k s ! 0 is EOT) (length (drop k s) is 1) f) in
        (t, record { ordered = omega arith; within = omega arith }))
        (λ f. tt))

    etx-in : (k : ℕ) → at + 2 + length d ≤ k → In s at (after_etx c d (drop k s))
    unfolding after_etx
    etx-in k h =
        let l = drop k s in
        choice (In s at) (l ! 0 is STX || l ! 0 is EOT) (λ e. follow-in true k h)
        (λ e.
        choice (In s at) (is_carried4 l)
        (λ f. rw drop-drop (follow-in (carried4 l is checksum c d) (k + 4) (omega arith)))
        (λ f. tt))

    data-in : (k : ℕ) → at + 2 + length d ≡ k → In s at (after_data c d (drop k s))
    unfolding after_data
    data-in k h =
        let l = drop k s in
        choice (In s at) (l ! 0 is ETX) (λ e. rw drop-drop (etx-in (k + 1) (omega arith)))
        (λ e.
        choice (In s at) (is_end l)
        (λ f.
        let w : k < length s = stands s k EOT (omega arith) (and_left (l ! 0 is EOT) (length l is 1) f) in
        (t, record { ordered = omega arith; within = omega arith }))
        (λ f. tt))

  block_in : In s at (block_at (drop at s))
  unfolding block_at
  block_in =
      let l = drop at s in
      let rest : List ℕ = drop (at + 2) s in
      let d : List ℕ = front is_plain rest in
      let b : behind is_plain rest ≡ drop (at + 2 + length d) s = sym (drop-front is_plain rest) ∙ drop-drop (length d) (at + 2) s in
      choice (In s at) (l ! 0 is STX && is_plain (l ! 1))
      (λ e. rw (drop-drop 2 at s, b) (data-in (l ! 1) d (take-front is_plain rest) (at + 2 + length d) refl))
      (λ e. tt)

  -- a step that is placed, and read back
  view-placed : (x : Step) → In s at x → step_view s (placed s at x) ≡ x
  unfolding step_view placed
  view-placed stray h = refl
  view-placed (more b l) h =
      let z : at + 2 + length b.text - (at + 2) ≡ length b.text = omega arith in
      rw (z, h.0, h.1)
  view-placed (last b) h =
      let z : at + 2 + length b.text - (at + 2) ≡ length b.text = omega arith in
      rw (z, h.0)

  -- what a step answers by places, read back, is the block that stands there
  pub found-view : step_view s (found_at s at) ≡ block_at (drop at s)
  unfolding found_at
  found-view = view-placed (block_at (drop at s)) block_in

-- the places of an answer
abbrev PlacesIn : List ℕ → BlockStep → Type 0
PlacesIn s Stray = Unit {0}
PlacesIn s (More b n) = MoreIn s b n
PlacesIn s (Last b) = LastIn s b

placed-in : (s : List ℕ) (at : ℕ) (x : Step) → In s at x → PlacesIn s (placed s at x)
unfolding placed
placed-in s at stray h = tt
placed-in s at (more b l) h = h.2
placed-in s at (last b) h = h.1

places-in : (s : List ℕ) (at : ℕ) → PlacesIn s (found_at s at)
unfolding found_at
places-in s at = placed-in s at (block_at (drop at s)) (block_in s at)

-- ---- r is what is found at place at: what a step answers
module _ (s : List ℕ) (at : ℕ) (r : BlockStep) (e : r ≡ found_at s at) where
  -- a block with another behind it stands inside
  module _ {b : Placed} {n : ℕ} (h : r ≡ More b n) where
    pub more-in : MoreIn s b n
    more-in = subst (PlacesIn s) (sym e ∙ h) (places-in s at)

    pub more-ordered : b.from ≤ b.to
    more-ordered = more-in.ordered

    pub more-inside : b.to ≤ length s
    more-inside = omega (arith, more-in)

  -- and so does a last one
  module _ {b : Placed} (h : r ≡ Last b) where
    pub last-in : LastIn s b
    last-in = subst (PlacesIn s) (sym e ∙ h) (places-in s at)

    pub last-ordered : b.from ≤ b.to
    last-ordered = last-in.ordered

    pub last-inside : b.to ≤ length s
    last-inside = omega (arith, last-in)

  -- what stands there, by the answer
  seen : (x : BlockStep) → r ≡ x → block_at (drop at s) ≡ step_view s x
  seen x h = sym (found-view s at) ∙ ap (step_view s) (sym e ∙ h)

  -- a block that was found has plain data
  plain-there : (x : BlockStep) → r ≡ x → StepOf anything (step_view s x)
  plain-there x h = subst (StepOf anything) (seen x h) (block_of anything (drop at s) (all-anything (drop at s)))

  pub more-plain : {b : Placed} {n : ℕ} → r ≡ More b n → all is_plain (data_of s b) ≡ true
  unfolding step_view
  more-plain {b} {n} h = (plain-there (More b n) h).0.plain.following

  pub last-plain : {b : Placed} → r ≡ Last b → all is_plain (data_of s b) ≡ true
  unfolding step_view
  last-plain {b} h = (plain-there (Last b) h).plain.following

  -- the blocks from there on
  pub blocks-stray : r ≡ Stray → (n : ℕ) → 0 < n → blocks n (drop at s) ≡ bad_body
  unfolding blocks onward step_view
  blocks-stray h zero p = absurd (omega arith)
  blocks-stray h (suc n) p = rw (seen Stray h)

  pub blocks_last : {b : Placed} → r ≡ Last b → (n : ℕ) → 0 < n → blocks n (drop at s) ≡ body (read_back s b ∷ [])
  unfolding blocks onward step_view
  blocks_last h zero p = absurd (omega arith)
  blocks_last {b} h (suc n) p = rw (seen (Last b) h)

  pub blocks_more : {b : Placed} {n : ℕ} → r ≡ More b n → (m : ℕ) → 0 < m → blocks m (drop at s) ≡ prepend (read_back s b) (blocks (m - 1) (drop n s))
  unfolding blocks onward step_view
  blocks_more h zero p = absurd (omega arith)
  blocks_more {b} {n} h (suc m) p = let z : suc m - 1 ≡ m = omega arith in rw (z, seen (More b n) h)

-- no more blocks may stand there
pub blocks-none : (l : List ℕ) (n : ℕ) → n ≤ 0 → blocks n l ≡ bad_body
unfolding blocks
blocks-none l zero h = refl
blocks-none l (suc n) h = absurd (omega arith)
