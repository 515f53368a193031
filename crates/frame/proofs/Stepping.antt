-- What a step over the blocks of a frame promises. s are the bytes in which the blocks stand, r is what a step from a place of s answers: a
-- block that it finds stands inside s, its data are bytes from 05H up, and the blocks from that place on are this one and those behind it.
use mathlib.Core.Path.{◌≡◌}
use mathlib.Core.Bool.{true}
use mathlib.Core.List.{List, [], ◌∷◌}
use Prim.Native.Nat.{ℕ, ◌-◌, ◌<◌, ◌≤◌}
use lib.ListN.{length, drop}
use Rattle.octets.specs.Choice.{all}
use Rattle.octets.specs.Bytes.{is_plain}
use Rattle.body.specs.Body.{bad_body, body, prepend, blocks}
use Rattle.body.specs.Steps.{found_at, data_of, read_back}
use Rattle.body.specs.declared.Placed.{Placed}
use Rattle.body.specs.declared.BlockStep.{BlockStep}
use Rattle.body.specs.declared.BlockStep.TheVariants.{Stray, More, Last}
use Rattle.body.proofs.FoundBlocks as found

module _ (s : List ℕ) (at : ℕ) (r : BlockStep) (e : r ≡ found_at s at) where
  -- no block: no good body starts there
  pub stray-blocks : r ≡ Stray → (m : ℕ) → 0 < m → blocks m (drop at s) ≡ bad_body
  stray-blocks = found.blocks-stray s at r e

  -- a block with another one behind it, the next block at place n
  module _ {b : Placed} {n : ℕ} (h : r ≡ More b n) where
    pub more-ordered : b.from ≤ b.to
    more-ordered = found.more-ordered s at r e h

    pub more-inside : b.to ≤ length s
    more-inside = found.more-inside s at r e h

    pub more-plain : all is_plain (data_of s b) ≡ true
    more-plain = found.more-plain s at r e h

    pub more-blocks : (m : ℕ) → 0 < m → blocks m (drop at s) ≡ prepend (read_back s b) (blocks (m - 1) (drop n s))
    more-blocks = found.blocks_more s at r e h

  -- the last block
  module _ {b : Placed} (h : r ≡ Last b) where
    pub last-ordered : b.from ≤ b.to
    last-ordered = found.last-ordered s at r e h

    pub last-inside : b.to ≤ length s
    last-inside = found.last-inside s at r e h

    pub last-plain : all is_plain (data_of s b) ≡ true
    last-plain = found.last-plain s at r e h

    pub last-blocks : (m : ℕ) → 0 < m → blocks m (drop at s) ≡ body (read_back s b ∷ [])
    last-blocks = found.blocks_last s at r e h

-- where no block may stand any more
pub none-blocks : (l : List ℕ) (n : ℕ) → n ≤ 0 → blocks n l ≡ bad_body
none-blocks = found.blocks-none
