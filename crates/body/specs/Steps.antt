-- Where a block stands in the bytes of a frame: what a step over the blocks answers; and the blocks that stand from a place on.
use Rattle.std.specs.Prelude.{ℕ, ◌+◌, ◌-◌, Bool, true, false, List, [], length, drop}
use Rattle.octets.specs.Choice.{part}
use Rattle.octets.specs.Bytes.{BLOCKS}
use Rattle.body.specs.Body.{Block, block, Step, stray, more, last, Body, bad_body, body, block_at, blocks}
use Rattle.body.specs.declared.Placed.{Placed}
use Rattle.body.specs.declared.BlockStep.{BlockStep}
use Rattle.body.specs.declared.BlockStep.TheVariants.{Stray, More, Last}

-- a block by places, whose data start at place i
abbrev pub by_places : ℕ → Block → Placed
by_places i b = record { command = b.command; from = i; to = i + length b.text; right = b.right }

-- what stands at place at of s, by places: the data start two bytes on, the next block where the bytes behind this one start
unfoldable pub placed : List ℕ → ℕ → Step → BlockStep
placed s at stray = Stray
placed s at (more b l) = More (by_places (at + 2) b) (length s - length l)
placed s at (last b) = Last (by_places (at + 2) b)

-- the data in s of a block by places
abbrev pub data_of : List ℕ → Placed → List ℕ
data_of s b = part b.from b.to s

-- such a block, read back
abbrev pub read_back : List ℕ → Placed → Block
read_back s b = block b.command (data_of s b) b.right

-- what stands at a place of s
unfoldable pub found_at : List ℕ → ℕ → BlockStep
found_at s at = placed s at (block_at (drop at s))

-- the blocks of a body, none of a bad one
unfoldable pub blocks_in : Body → List Block
blocks_in bad_body = []
blocks_in (body bs) = bs

-- a good body, and not 7 "bad body"
unfoldable pub is_body : Body → Bool
is_body bad_body = false
is_body (body bs) = true

-- a good body stands at a place of s: "1 to 64 blocks, then EOT as the very last byte"
unfoldable pub body_at : List ℕ → ℕ → Bool
body_at s from = is_body (blocks BLOCKS (drop from s))

-- its blocks
unfoldable pub blocks_at : List ℕ → ℕ → List Block
blocks_at s from = blocks_in (blocks BLOCKS (drop from s))
