use Rattle.std.proofs.Common.{◌/◌, length}
use Rattle.body.specs.InnerWalking.{STRIDE, left, Walks}
use Rattle.body.proofs.walk.by_strides.Given as goal

abbrev pub invariant-loop-part : goal.invariant-loop-part
invariant-loop-part l = Walks l.s l.fn.start l.walked

abbrev pub decreases-loop-part : goal.decreases-loop-part
decreases-loop-part l = length (left l.s l.walked.to) / STRIDE
