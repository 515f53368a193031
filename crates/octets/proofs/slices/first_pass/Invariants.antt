use Rattle.octets.proofs.SlicesLaws.{Running}
use Rattle.octets.proofs.slices.first_pass.Given as goal

abbrev pub invariant-loop-i : goal.invariant-loop-i
invariant-loop-i g l = Running (g.T.Test.passing l.test) l.s 0 l.i
