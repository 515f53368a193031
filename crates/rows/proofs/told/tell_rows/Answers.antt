use Rattle.rows.proofs.ToldLaws.{tell_rows}
use Rattle.rows.proofs.told.tell_rows.Goals as goal

pub loop-init : goal.loop-init
loop-init c = search tell_rows

pub loop-preserved : goal.loop-preserved
loop-preserved c = search tell_rows
