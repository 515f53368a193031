use Rattle.board.proofs.IndexLaws.{placing}
use native.Mathlib.Omega.{arith}
use Rattle.octets.proofs.Counts.{count-end}
use Rattle.board.proofs.index.entries.Goals as goal

pub loop-place-preserved : goal.loop-place-preserved
loop-place-preserved c = search placing

pub returns : goal.returns
returns c = count-end c.loop-place.invariant (omega arith)
