use Rattle.rows.proofs.ToldLaws.{tell_row}
use Rattle.rows.proofs.told.tell_row.Goals as goal

pub loop-i-preserved : goal.loop-i-preserved
loop-i-preserved c = search tell_row
