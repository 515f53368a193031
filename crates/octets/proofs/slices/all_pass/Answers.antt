use Rattle.octets.proofs.SlicesLaws.{testing}
use Rattle.octets.proofs.slices.all_pass.Goals as goal

pub loop-b-preserved : goal.loop-b-preserved
loop-b-preserved g c = search testing

pub returns : goal.returns
returns g c = search testing
