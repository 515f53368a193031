use Rattle.octets.proofs.Capitals.{carried}
use Rattle.octets.proofs.hex.capital.Goals as goal

pub returns-in-97-to-102 : goal.returns-in-97-to-102
returns-in-97-to-102 c = search carried

pub returns-in_default : goal.returns-in_default
returns-in_default c = search carried

pub returns-in_default-2 : goal.returns-in_default-2
returns-in_default-2 c = search carried
