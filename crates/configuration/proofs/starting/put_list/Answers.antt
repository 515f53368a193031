use Rattle.configuration.proofs.StartingLaws.{making}
use Rattle.configuration.proofs.starting.put_list.Goals as goal

pub loop-i-init : goal.loop-i-init
loop-i-init c = search making

pub loop-i-preserved : goal.loop-i-preserved
loop-i-preserved c = search making
