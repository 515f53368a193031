use Rattle.body.proofs.SumLaws.{Adding}
use Rattle.body.proofs.sum.add_up.Given as goal

abbrev pub invariant-loop-b : goal.invariant-loop-b
invariant-loop-b l = Adding l.s l.start l.plain l.sum l.b-index
