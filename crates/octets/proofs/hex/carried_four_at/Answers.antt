use Rattle.octets.proofs.Capitals.{carried}
use Rattle.octets.proofs.hex.carried_four_at.Goals as goal

pub returns : goal.returns
returns c = search carried
