use Rattle.octets.proofs.SlicesLaws.{running}
use Rattle.octets.proofs.slices.first_pass.Goals as goal

pub loop-i-preserved : goal.loop-i-preserved
loop-i-preserved g c = search running

pub returns-then-not-passes : goal.returns-then-not-passes
returns-then-not-passes g c = search running

pub returns : goal.returns
returns g c = search running
