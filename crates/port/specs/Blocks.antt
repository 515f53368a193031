-- A frame and its blocks as C is told of them: the answers of `read` and of a step in plain numbers.
use Rattle.std.specs.Prelude.{ℕ, ◌≡◌, List, length, Result, Ok, Err}
use Rattle.body.specs.declared.Placed.{Placed}
use Rattle.body.specs.declared.BlockStep.{BlockStep}
use Rattle.body.specs.declared.BlockStep.TheVariants.{Stray, More, Last}
use Rattle.reading.specs.Places.{read_places, room_after}
use Rattle.reading.specs.declared.Read.{Read}
use Rattle.reading.specs.declared.Read.TheVariants.{Standard, Printable}
use Rattle.port.specs.Truth.{truth}
use Rattle.port.specs.declared.Places.{Places}
use Rattle.port.specs.declared.BlockPlaces.{BlockPlaces}

-- number, printable or not, bytes, where the header and the first block start
abbrev pub places : ℕ → ℕ → ℕ → ℕ → ℕ → Places
places n p l h b = record { number = n; printable = p; length = l; header = h; body = b }

-- of a frame s and what reading it answers; "everything else returned is 0" with a refusal
unfoldable pub places_as : List ℕ → Result Read ℕ → Places
places_as s (Err n) = places n 0 0 0 0
places_as s (Ok (Standard h b)) = places 0 0 (length s) h b
places_as s (Ok (Printable n h b)) = places 0 1 n h b

-- what `pagozkin_read` of a frame with a room promises: its answer, and the room after it
pub record ReadsAs (s room : List ℕ) (answer : Places) (after : List ℕ) : Type 0 where
  pub places : answer ≡ places_as s (read_places s)
  pub left : after ≡ room_after s room

-- which kind of step, its block's command byte, whether its sum is right, where its data start and end, and the place behind
abbrev pub block_places : ℕ → ℕ → ℕ → ℕ → ℕ → ℕ → BlockPlaces
block_places k c r i j n = record { kind = k; command = c; right = r; from = i; to = j; next = n }

-- of a block, with the kind of the step and the place behind
abbrev pub block_told : ℕ → Placed → ℕ → BlockPlaces
block_told k b n = block_places k b.command (truth b.right) b.from b.to n

-- of the bytes s and what stands at a place of them: 0 no block, 1 a block with another one behind it, 2 the last block;
-- the place behind is that of the next block, or the end where there is none, as a reader is left there
unfoldable pub block_as : List ℕ → BlockStep → BlockPlaces
block_as s Stray = block_places 0 0 0 0 0 (length s)
block_as s (More b n) = block_told 1 b n
block_as s (Last b) = block_told 2 b (length s)
