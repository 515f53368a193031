use Rattle.configuration.proofs.StartingLaws.{Making}
use Rattle.configuration.proofs.starting.put_list.Given as goal

abbrev pub invariant-loop-i : goal.invariant-loop-i
invariant-loop-i l = Making l.list l.i
