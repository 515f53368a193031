use Rattle.octets.proofs.Digits.{digits}
use Rattle.octets.proofs.hex.hex_value.Goals as goal

pub returns-in-48-to-57 : goal.returns-in-48-to-57
returns-in-48-to-57 c = search digits

pub returns-in-65-to-70 : goal.returns-in-65-to-70
returns-in-65-to-70 c = search digits

pub returns-in_default : goal.returns-in_default
returns-in_default c = search digits

pub returns-in_default-2 : goal.returns-in_default-2
returns-in_default-2 c = search digits

pub returns-in_default-3 : goal.returns-in_default-3
returns-in_default-3 c = search digits
