use Rattle.octets.proofs.Digits.{digits}
use Rattle.octets.proofs.hex.number_at.Goals as goal

pub returns : goal.returns
returns c = search digits
