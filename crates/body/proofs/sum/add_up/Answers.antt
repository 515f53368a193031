use Rattle.body.proofs.SumLaws.{summing}
use Rattle.body.proofs.sum.add_up.Goals as goal

pub loop-b-preserved : goal.loop-b-preserved
loop-b-preserved c = search summing
