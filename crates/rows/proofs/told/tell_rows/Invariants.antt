use Rattle.rows.proofs.ToldLaws.{Rows}
use Rattle.rows.proofs.told.tell_rows.Given as goal

abbrev pub invariant-loop : goal.invariant-loop
invariant-loop l = Rows l.initial.out l.at l.rows l.columns l.picture l.out l.i l.k l.counter
