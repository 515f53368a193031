-- "The blocks are taken by a reader that remembers the frame and its place in it."
use Rattle.std.specs.Prelude.{◌≡◌, ℕ, List, length}
use Rattle.std.specs.Borrow.{Bor}
use Rattle.body.specs.Steps.{found_at}
use Rattle.body.specs.declared.BlockStep.{BlockStep}
use Rattle.body.specs.declared.BlockStep.TheVariants.{Stray, More, Last}
use Rattle.body.specs.declared.reader.Reader.{Reader}

-- the place behind what was found in a frame that ends at the second argument: the next block's, or the end where there is none
unfoldable pub place_behind : BlockStep → ℕ → ℕ
place_behind Stray end = end
place_behind (More b n) end = n
place_behind (Last b) end = end

-- where a reader of s that stands at a place is left
unfoldable pub place_after : List ℕ → ℕ → ℕ
place_after s at = place_behind (found_at s at) (length s)

-- a reader is made of a frame and a place
pub record Opened (frame : Bor (List ℕ)) (at : ℕ) (r : Reader) : Type 0 where
  pub holds : r.frame ≡ frame
  pub stands : r.at ≡ at

-- a reader answers what stands at its place, keeps its frame, and is left at the place behind
pub record Stepped (before after : Reader) (found : BlockStep) : Type 0 where
  pub taken : found ≡ found_at before.frame.now before.at
  pub holds : after.frame ≡ before.frame
  pub stands : after.at ≡ place_after before.frame.now before.at
