use Rattle.configuration.proofs.Laying.{Laying}
use Rattle.configuration.proofs.records.lay.Given as goal

abbrev pub invariant-loop-head : goal.invariant-loop-head
invariant-loop-head l = Laying l.initial.m l.records l.m l.places l.place l.head-index
