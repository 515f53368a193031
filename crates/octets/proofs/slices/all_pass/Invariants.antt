use Rattle.octets.proofs.SlicesLaws.{Testing}
use Rattle.octets.proofs.slices.all_pass.Given as goal

abbrev pub invariant-loop-b : goal.invariant-loop-b
invariant-loop-b g l = Testing (g.T.Test.passing l.test) l.s l.passed l.b-index
