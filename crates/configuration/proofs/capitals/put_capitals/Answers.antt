use Rattle.configuration.proofs.CapitalsLaws.{filled}
use Rattle.configuration.proofs.capitals.put_capitals.Goals as goal

pub loop-i-init : goal.loop-i-init
loop-i-init c = search filled

pub loop-i-preserved : goal.loop-i-preserved
loop-i-preserved c = search filled

pub returns : goal.returns
returns c = search filled
