use Rattle.std.proofs.Common.{length}
use Rattle.body.specs.InnerWalking.{left, Walks}
use Rattle.body.proofs.walk.by_bytes.Given as goal

abbrev pub invariant-loop-walked : goal.invariant-loop-walked
invariant-loop-walked l = Walks l.s l.fn.start l.walked

abbrev pub decreases-loop-walked : goal.decreases-loop-walked
decreases-loop-walked l = length (left l.s l.walked.to)
