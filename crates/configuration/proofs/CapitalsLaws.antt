-- The list in capitals: its bytes, what holds while they are put into a room, and that a list that has no room there is refused.
use Prim.Native.Nat.{ℕ, zero, suc, ◌+◌, ◌%◌, ◌<◌, ◌≤◌}
use mathlib.Core.Path.{◌≡◌, refl, sym, ap, ◌∙◌}
use mathlib.Core.List.{List, [], ◌∷◌, ◌++◌}
use native.Mathlib.Omega.{arith}
use native.Mathlib.Numerals.{add-one}
use borrow.Author.Rules.{rules}
use borrow.Author.Tests.{lt-ltb, le-ltb}
use lib.ListN.{length, take, set}
use lib.Seq.{take-suc, take_all, length-take-le}
use Rattle.std.specs.Prelude.{if◌then◌else◌}
use Rattle.octets.specs.Choice.{◌<?◌, ◌!◌}
use Rattle.octets.specs.Carried.{capital}
use Rattle.octets.specs.Buffer.{overlay}
use Rattle.buffers.proofs.Splices.{overlay-none, overlay-append, length-overlay}
use Rattle.buffers.proofs.Stores.{store-one}
use Rattle.configuration.specs.Capitals.{capitals_from, list_capitals}
use Rattle.configuration.specs.Records.{refusal}
use Rattle.configuration.proofs.RecordLaws.{records-most}

-- ---- bytes

pub capitals-length : (k : ℕ) (d : List ℕ) → length (capitals_from k d) ≡ length d
unfolding capitals_from
capitals-length k [] = refl
capitals-length k (x ∷ d) = ap suc (capitals-length (suc k) d)

-- the byte at a place
byte_at : (k : ℕ) (d : List ℕ) (i : ℕ) → i < length d → capitals_from k d ! i ≡ (if (k + i) % 11 <? 3 then d ! i else capital (d ! i))
unfolding capitals_from
byte_at k [] i h = absurd (omega arith)
byte_at k (x ∷ d) zero h = let z : k + 0 ≡ k = omega arith in rw z
byte_at k (x ∷ d) (suc i) h = let z : k + suc i ≡ suc k + i = omega arith in rw z (byte_at (suc k) d i (omega arith))

module _ (d : List ℕ) (i : ℕ) (h : i < length d) where
  pub byte-first : i % 11 < 3 → d ! i ≡ list_capitals d ! i
  byte-first a = sym (byte_at 0 d i h ∙ let z : 0 + i ≡ i = omega arith in rw (z, lt-ltb (i % 11) 3 a))

  pub byte-digit : 3 ≤ i % 11 → (c : ℕ) → c ≡ capital (d ! i) → c ≡ list_capitals d ! i
  byte-digit a c f = f ∙ sym (byte_at 0 d i h ∙ let z : 0 + i ≡ i = omega arith in rw (z, le-ltb (i % 11) 3 a))

-- ---- the bytes before place i are in the room

pub record Filling (d o r : List ℕ) (i : ℕ) : Type 0 where
  pub room : length d ≤ length o
  pub few : i ≤ length d
  pub part : r ≡ overlay o (take i (list_capitals d))

pub fill_start : (d o : List ℕ) → length d ≤ length o → Filling d o o 0
fill_start d o h = record { room = h; few = omega arith; part = sym (overlay-none o) }

module _ {d o r : List ℕ} {i : ℕ} (g : Filling d o r i) where
  so-long : length (take i (list_capitals d)) ≡ i
  so-long = length-take-le i (list_capitals d) (rw (capitals-length 0 d) g.few)

  fill-long : length r ≡ length o
  fill-long = ap length g.part ∙ length-overlay o (take i (list_capitals d)) (omega (arith, so-long, g.room, g.few))

  fill-room : i < length d → i < length r
  fill-room h = omega (arith, fill-long, g.room)

  pub fill_on : i < length d → (b : ℕ) → b ≡ list_capitals d ! i → Filling d o (set r i b) (i + 1)
  fill_on h b e =
      let w : List ℕ = list_capitals d in
      let f : take i w ++ (b ∷ []) ≡ take (i + 1) w = rw (e, add-one) (sym (take-suc w i 0 (rw (capitals-length 0 d) h))) in
      record {
        room = g.room;
        few = omega arith;
        part = store-one r i b (fill-room h) ∙ rw g.part (overlay-append o (take i w) (b ∷ []) i (sym so-long) ∙ ap (overlay o) f);
      }

  pub fill_end : length d ≤ i → r ≡ overlay o (list_capitals d)
  fill_end h = g.part ∙ ap (overlay o) (take_all i (list_capitals d) (rw (capitals-length 0 d) h))

pub ruleset filled = (byte-first, byte-digit, fill_start, fill_on, fill_end, rules)

-- ---- 64 records are 704 bytes

pub long-refused : (d : List ℕ) (room : ℕ) → 704 < length d → refusal (list_capitals d) room ≡ 25
unfolding refusal
long-refused d room h = rw (records-most 64 (list_capitals d) (rw (capitals-length 0 d) h))
