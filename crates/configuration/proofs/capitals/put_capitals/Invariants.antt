use Rattle.configuration.proofs.CapitalsLaws.{Filling}
use Rattle.configuration.proofs.capitals.put_capitals.Given as goal

abbrev pub invariant-loop-i : goal.invariant-loop-i
invariant-loop-i l = Filling l.d l.initial.list l.list l.i
