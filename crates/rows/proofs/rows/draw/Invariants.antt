use Rattle.rows.proofs.RowsLaws.{Drawing}
use Rattle.rows.proofs.rows.draw.Given as goal

abbrev pub invariant-loop-b : goal.invariant-loop-b
invariant-loop-b l = Drawing l.rows l.columns l.text l.picture l.left l.room l.at l.b-index
