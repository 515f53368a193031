use Rattle.rows.proofs.RowsLaws.{Judging}
use Rattle.rows.proofs.rows.well_formed.Given as goal

abbrev pub invariant-loop-b : goal.invariant-loop-b
invariant-loop-b l = Judging l.rows l.text l.left l.b-index
