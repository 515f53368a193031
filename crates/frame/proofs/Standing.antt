-- What a reading promises of the places that it answers: header text and blocks stand there, in the frame or in the room as the call left it.
use mathlib.Core.Path.{◌≡◌}
use mathlib.Core.Bool.{true, false}
use mathlib.Core.List.{List}
use Prim.Native.Nat.{ℕ, ◌≤◌}
use native.Mathlib.Omega.{arith}
use lib.ListN.{length, take}
use Rattle.std.specs.Prelude.{Result, Ok, Err}
use Rattle.octets.specs.Choice.{part}
use Rattle.body.specs.Steps.{body_at, blocks_at}
use Rattle.reading.specs.Reading.{Reading, refused, frame, read}
use Rattle.reading.specs.Places.{number_of, numbered, is_printable, bare_read, Reads}
use Rattle.reading.specs.declared.Read.{Read}
use Rattle.reading.specs.declared.Read.TheVariants.{Standard, Printable}
use Rattle.reading.specs.declared.Refusal.{Refusal}
use Rattle.reading.proofs.Viewing as viewing

-- r is the reading of a frame whose bytes are t: its header text from place i up to place j, its blocks from place j on
pub record Standing (t : List ℕ) (i j : ℕ) (r : Reading) : Type 0 where
  pub reads : r ≡ frame (part i j t) (blocks_at t j)
  pub good : body_at t j ≡ true
  pub ordered : i ≤ j
  pub inside : j ≤ length t

by-stands : {t : List ℕ} {i j : ℕ} {r : Reading} → viewing.Stands t i j r → Standing t i j r
by-stands w = record { reads = viewing.stands-frame w; good = viewing.stands_good w; ordered = w.ordered; inside = omega (arith, w.inside) }

-- s is a frame that was read with a room
module _ {s room after : List ℕ} {answer : Result Read Refusal} (g : Reads s room answer after) where
  pub refused-reads : {e : Refusal} → answer ≡ Err e → read s ≡ refused (number_of e)
  refused-reads = viewing.reads-refused g

  pub standard-stands : {i j : ℕ} → answer ≡ Ok (Standard i j) → Standing s i j (read s)
  standard-stands h = by-stands (viewing.reads-standard g h)

  -- of a printable frame n bytes stand at the start of the room
  module _ {n i j : ℕ} (h : answer ≡ Ok (Printable n i j)) where
    pub printable-stands : Standing (take n after) i j (read s)
    printable-stands = by-stands (viewing.reads-printable g h).stands

    pub room_within : n ≤ length after
    room_within = viewing.reads-within g h

    pub room-counts : n ≡ length (take n after)
    room-counts = viewing.reads-counts g h

-- one that is not printable, and was read without a room
module _ (s : List ℕ) (p : is_printable s ≡ false) {answer : Result Read Refusal} (e : numbered answer ≡ bare_read s) where
  pub bare-refused : {x : Refusal} → answer ≡ Err x → read s ≡ refused (number_of x)
  bare-refused = viewing.bare-refused s p e

  pub bare-stands : {i j : ℕ} → answer ≡ Ok (Standard i j) → Standing s i j (read s)
  bare-stands h = by-stands (viewing.bare-standard s p e h)

  -- nothing stands in a room then
  pub bare-never {ℓ} : {X : Type ℓ} {n i j : ℕ} → answer ≡ Ok (Printable n i j) → X
  bare-never = viewing.bare-never s p e
