-- A block at a place: what the bytes there say of it, test by test.
use Rattle.std.proofs.Common.{◌≡◌, ℕ, ◌+◌, ◌-◌, ◌%◌, ◌^◌, ◌<◌, ◌≤◌, Bool, true, false, ◌||◌, ◌⊎◌, List, length, drop, sym, refl, ap, ◌∙◌, inl, inr, ⊎_elim, arith, length-drop, length-take, drop-drop, w64, Fits, rules, ne_eqb}
use Rattle.octets.specs.Choice.{◌is◌, ◌!◌, behind, part}
use Rattle.octets.specs.Bytes.{STX, ETX, EOT, is_plain}
use Rattle.octets.specs.Carried.{capitals}
use Rattle.octets.specs.InnerDigits.{four}
use Rattle.std.specs.Prelude.{Option, Some, None}
use Rattle.octets.proofs.Spots.{head_at, get_at, there}
use Rattle.octets.proofs.Places.{take-front, drop-front}
use Rattle.octets.proofs.SlicesLaws.{plain, not_plain}
use Rattle.octets.proofs.Told.{four-none, four-some}
use Rattle.body.specs.Sum.{checksum}
use Rattle.body.specs.Body.{block, follow, after_etx, after_data, block_at}
use Rattle.body.specs.Steps.{by_places, placed, found_at, data_of, read_back}
use Rattle.body.specs.InnerWalking.{stx, Inside, Summed, opening, walked, left}
use Rattle.body.specs.Readers.{place_behind, place_after}
use Rattle.body.specs.declared.walk.Walked.{Walked}
use Rattle.body.specs.declared.Placed.{Placed}
use Rattle.body.specs.declared.BlockStep.{BlockStep}
use Rattle.body.specs.declared.BlockStep.TheVariants.{Stray, More}
use Rattle.body.proofs.SumLaws.{sum-block}
use Rattle.body.proofs.WalkLaws.{left-within}

-- ---- a block by places, whose data stand inside

pub placed-back : (s : List ℕ) (b : Placed) → Inside s b → b ≡ by_places (stx b + 2) (read_back s b)
placed-back s b h =
    let i : b.from ≡ b.from - 2 + 2 = omega (arith, h) in
    let j : b.to ≡ b.from - 2 + 2 + length (data_of s b) = simp (length-take, length-drop) (omega (arith, h)) in
    λ k. record { command = b.command; from = i k; to = j k; right = b.right }

pub next-length : (s : List ℕ) (i : ℕ) → i ≤ length s → i ≡ length s - length (drop i s)
next-length s i h = simp length-drop (omega arith)

pub ruleset places = (head_at, there, length-drop, drop-drop, placed-back, next-length, rules)

-- ---- what stands behind its ETX, at place to

module _ (s : List ℕ) (b : Placed) (x : ℕ) (e : x ≡ s ! (b.to + 1)) (t : Bool) (d : t ≡ (x is STX || x is EOT)) where
  etx-test : (drop (b.to + 1) s ! 0 is STX || drop (b.to + 1) s ! 0 is EOT) ≡ t
  etx-test = rw (head_at, ← e, ← d)

  module _ (n : t ≡ false) (f : Option ℕ) (g : f ≡ four (capitals (drop (b.to + 1) s))) where
    pub etx-stray : f ≡ None → Stray ≡ placed s (stx b) (after_etx b.command (data_of s b) (drop (b.to + 1) s))
    unfolding after_etx placed
    etx-stray h = rw (etx-test ∙ n, four-none (capitals (drop (b.to + 1) s)) (sym g ∙ h))

    pub etx-sum : (v sum : ℕ) (r : BlockStep) → f ≡ Some v → sum ≡ checksum b.command (data_of s b)
        → r ≡ placed s (stx b) (follow (block b.command (data_of s b) (v is sum)) (drop (b.to + 5) s))
        → r ≡ placed s (stx b) (after_etx b.command (data_of s b) (drop (b.to + 1) s))
    unfolding after_etx
    etx-sum v sum r h k q =
        let w = four-some (capitals (drop (b.to + 1) s)) v (sym g ∙ h) in
        let five : b.to + 1 + 4 ≡ b.to + 5 = omega arith in
        rw (etx-test ∙ n, w.0, w.1, ← k, drop-drop, five) q

pub ruleset behind_etx = (head_at, etx-stray, etx-sum, rules)

-- ---- a block at place at

-- the places that the code adds up
pub stx-fits : (s : List ℕ) (at x : ℕ) → x ≡ s ! at → x ≡ STX → length s < 2 ^ 64 → Fits w64 (at + 1)
stx-fits s at x e h l = record { fits = omega (arith, there s at (omega arith)) }

module _ (s : List ℕ) (at c : ℕ) (f : c ≡ s ! (at + 1)) (k : 5 ≤ c) where
  pub command-fits : length s < 2 ^ 64 → Fits w64 (at + 2)
  command-fits l = record { fits = omega (arith, there s (at + 1) (omega arith)) }

  pub command-in : at + 2 ≤ length s
  command-in = omega (arith, there s (at + 1) (omega arith))

-- its data, walked with a sum
module _ (s : List ℕ) (at o : ℕ) (w : Walked) (e : w ≡ walked (record { to = at + 2; sum = o }) (left s (at + 2))) where
  ends : w.to ≡ at + 2 + length (left s (at + 2))
  ends = ap (λ x. x.to) e

  text : part (at + 2) w.to s ≡ left s (at + 2)
  text = let z : w.to - (at + 2) ≡ length (left s (at + 2)) = omega (arith, ends) in rw z (take-front is_plain (drop (at + 2) s))

  rest : drop w.to s ≡ behind is_plain (drop (at + 2) s)
  rest = rw ends (sym (drop-drop (length (left s (at + 2))) (at + 2) s) ∙ drop-front is_plain (drop (at + 2) s))

  module _ (c : ℕ) (f : c ≡ s ! (at + 1)) (k : 5 ≤ c) where
    abbrev here : Placed
    here = record { command = c; from = at + 2; to = w.to; right = true }

    pub found-summed : o ≡ opening c → (r : ℕ) → r ≡ (w.sum + ETX) % 65536 → Summed s here r
    found-summed h r q = record {
      inside = record {
        start = omega arith;
        ordered = omega (arith, ends);
        within = omega (arith, ends, there s (at + 1) (omega arith), left-within s (at + 2));
      };
      right = refl;
      same = rw text (sum-block c (left s (at + 2)) o w.sum r h (ap (λ x. x.sum) e) q);
    }

    pub found-block : (x : ℕ) → x ≡ s ! at → x ≡ STX → (r : BlockStep)
        → r ≡ placed s (stx here) (after_data c (data_of s here) (drop w.to s)) → r ≡ found_at s at
    unfolding found_at block_at
    found-block x d h r q =
        let z : at + 2 - 2 ≡ at = omega arith in
        rw (head_at, ← d, h, get_at, ← f, plain c k, drop-drop, ← text, ← rest) (rw z at q)

-- no block
module _ (s : List ℕ) (at x : ℕ) (e : x ≡ s ! at) where
  pub found-no-stx : (x ≡ STX → ⊥) → Stray ≡ found_at s at
  unfolding found_at block_at placed
  found-no-stx h = rw (head_at, ← e, ne_eqb x STX h)

  pub found-no-command : x ≡ STX → (c : ℕ) → c ≡ s ! (at + 1) → c < 5 → Stray ≡ found_at s at
  unfolding found_at block_at placed
  found-no-command h c f k = rw (head_at, ← e, h, get_at, ← f, not_plain c k)

pub ruleset finding = (stx-fits, command-fits, command-in, found-summed, found-block, found-no-stx, found-no-command, rules)

-- ---- the reader

-- the place where the next block starts, as a step tells it, is the one at which a reader is left:
-- so who goes on there, by a step from a place, goes on as the reader does
pub next-left : (s : List ℕ) (at : ℕ) {b : Placed} {n : ℕ} → found_at s at ≡ More b n → n ≡ place_after s at
unfolding place_after place_behind
next-left s at e = rw e
