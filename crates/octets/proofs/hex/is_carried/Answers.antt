use Rattle.octets.proofs.Capitals.{carried}
use Rattle.octets.proofs.hex.is_carried.Goals as goal

pub returns : goal.returns
returns c = search carried
