use Rattle.rows.proofs.ToldLaws.{Row}
use Rattle.rows.proofs.told.tell_row.Given as goal

abbrev pub invariant-loop-i : goal.invariant-loop-i
invariant-loop-i l = Row l.initial.row l.picture l.k l.row l.i
