-- What holds while a block's data are walked, by strides and byte by byte, and its steps: where they end, and what they add to a sum.
use Rattle.std.proofs.Common.{◌≡◌, ℕ, zero, suc, ◌+◌, ◌-◌, ◌/◌, ◌%◌, ◌^◌, ◌<◌, ◌≤◌, Bool, true, false, not, List, [], ◌∷◌, ◌++◌, length, take, drop, sym, refl, ap, ◌∙◌, arith, length-append, length-drop, length-take, drop-drop, w64, Fits, Ok, Err, rules}
use Rattle.std.specs.Array.{IsFirstChunk}
use Rattle.octets.proofs.Spots.{tail-whole}
use Rattle.octets.specs.Choice.{front, all, ◌!◌}
use Rattle.octets.specs.Bytes.{is_plain}
use Rattle.octets.proofs.Tests.{by-test, never}
use Rattle.octets.proofs.SlicesLaws.{plain, not_plain}
use Rattle.octets.proofs.Places.{front_length, front-split, front-go, front-no, front_out}
use Rattle.body.specs.Sum.{sum_from}
use Rattle.body.specs.InnerWalking.{STRIDE, added_up, walked, left, Walks, Near}
use Rattle.body.specs.declared.walk.Walked.{Walked}
use Rattle.body.proofs.SumLaws.{added-some, added-none, sum-append}

-- ---- the data that are left at a place

module _ (s : List ℕ) (to : ℕ) where
  left-on : to < length s → 5 ≤ s ! to → left s to ≡ s ! to ∷ left s (to + 1)
  left-on h k = front-go is_plain s to h (plain (s ! to) k)

  pub left-within : length (left s to) ≤ length s - to
  left-within = omega (arith, front_length is_plain (drop to s), length-drop to s)

-- ---- a walk that has come as far as a place

pub walk_start : (s : List ℕ) (start : Walked) → start.to ≤ length s → Walks s start start
walk_start s start h = record { within = h; same = refl }

alike : {i j m n : ℕ} → i ≡ j → m ≡ n → ◌≡◌ {A = Walked} (record { to = i; sum = m }) (record { to = j; sum = n })
alike e f = λ k. record { to = e k; sum = f k }

module _ {s : List ℕ} {start w : Walked} (g : Walks s start w) where
  -- nothing is left
  walk-done : left s w.to ≡ [] → w ≡ walked start (left s start.to)
  unfolding sum_from
  walk-done e = alike (omega (arith, ap length e)) (sym (ap (sum_from w.sum) e)) ∙ g.same

  -- byte by byte
  pub walk-next : w.to < length s → 5 ≤ s ! w.to → (y : ℕ) → y ≡ (w.sum + s ! w.to) % 65536 → Walks s start (record { to = w.to + 1; sum = y })
  unfolding sum_from
  walk-next h k y q = record {
    within = omega arith;
    same = alike (omega (arith, ap length (left-on s w.to h k))) (rw q (ap (sum_from w.sum) (sym (left-on s w.to h k)))) ∙ g.same;
  }

  pub walk-stop : w.to < length s → s ! w.to < 5 → w ≡ walked start (left s start.to)
  walk-stop h k = walk-done (front-no is_plain s w.to h (not_plain (s ! w.to) k))

  pub walk-out : length s ≤ w.to → w ≡ walked start (left s start.to)
  walk-out h = walk-done (front_out is_plain s w.to h)

-- a round takes one byte of the data: there are as many rounds as bytes
pub walk-less : (s : List ℕ) (to : ℕ) → to < length s → 5 ≤ s ! to → length (left s (to + 1)) < length (left s to)
walk-less s to h k = omega (arith, ap length (left-on s to h k))

-- ---- sixteen bytes at a time

module _ (p : ℕ → Bool) where
  -- where one does not, the front is shorter
  front-few : (n : ℕ) (l : List ℕ) → all p (take n l) ≡ false → length (front p l) < n
  unfolding front all
  front-few zero l a = never a
  front-few (suc n) [] a = never a
  front-few (suc n) (x ∷ l) a = by-test (p x) (λ e. let z = front-few n l (rw e at a) in rw e (omega (arith, z))) (λ e. rw e (omega arith))

-- the bytes from a place on, as the code takes them
abbrev rest : List ℕ → ℕ → List ℕ
rest s to = take (length s - to) (drop to s)

rest-is : (s : List ℕ) (to : ℕ) → rest s to ≡ drop to s
rest-is s to = tail-whole s to

length-rest : (s : List ℕ) (to : ℕ) → length (rest s to) ≡ length s - to
length-rest s to = ap length (rest-is s to) ∙ length-drop to s

module _ {s : List ℕ} {start w : Walked} (g : Walks s start w) where
  -- fewer than sixteen bytes are left of all
  pub stride-out : length (rest s w.to) < STRIDE → Near s start w
  stride-out h = record { walks = g; few = omega (arith, left-within s w.to, length-rest s w.to) }

  module _ (part : List ℕ) (h : IsFirstChunk (rest s w.to) part STRIDE) where
    whole : STRIDE ≤ length s - w.to
    whole = omega (arith, h.enough, length-rest s w.to)

    sixteen : part ≡ take STRIDE (drop w.to s)
    sixteen = h.same ∙ ap (take STRIDE) (rest-is s w.to)

    pub stride-stop : (x : ℕ) → added_up w.sum part ≡ Err x → Near s start w
    stride-stop x k =
        record { walks = g; few = front-few is_plain STRIDE (drop w.to s) (rw sixteen at (added-none part w.sum x k)) }

    module _ (sum : ℕ) (k : added_up w.sum part ≡ Ok sum) where
      abbrev on : List ℕ
      on = left s (w.to + STRIDE)

      taken : left s w.to ≡ part ++ on
      taken =
          front-split is_plain STRIDE (drop w.to s) (rw sixteen at (added-some part w.sum sum k).0)
          ∙ ap (λ l. take STRIDE (drop w.to s) ++ front is_plain l) (drop-drop STRIDE w.to s)
          ∙ ap (λ l. l ++ on) (sym sixteen)

      shorter : length (left s w.to) ≡ STRIDE + length on
      shorter = omega (arith, whole, ap length taken, length-append part on, ap length sixteen, length-take STRIDE (drop w.to s), length-drop w.to s)

      pub stride-next : Walks s start (record { to = w.to + STRIDE; sum = sum })
      stride-next = record {
        within = omega (arith, whole);
        same =
            alike (omega (arith, shorter))
            (rw (added-some part w.sum sum k).1 (sym (sum-append w.sum part on) ∙ ap (sum_from w.sum) (sym taken)))
            ∙ g.same;
      }

      -- a round takes sixteen bytes of the data: there are as many rounds as whole sixteens
      pub stride-less : length on / STRIDE < length (left s w.to) / STRIDE
      stride-less = omega (arith, shorter)

module _ (s : List ℕ) (start w : Walked) (g : Near s start w) where
  pub near_within : w.to ≤ length s
  near_within = g.walks.within

  pub near-few : length (left s w.to) < STRIDE
  near-few = g.few

  pub near-rest : (x : Walked) → x ≡ walked w (left s w.to) → x ≡ walked start (left s start.to)
  near-rest x e = e ∙ g.walks.same

pub ruleset walking = (walk_start, walk-next, walk-stop, walk-out, walk-less, rules)

pub ruleset striding = (stride-out, stride-stop, stride-next, stride-less, rules)

pub ruleset nearing = (near_within, near-few, near-rest, rules)
