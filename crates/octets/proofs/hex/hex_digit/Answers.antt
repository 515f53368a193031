use Rattle.octets.proofs.Digits.{digits}
use Rattle.octets.proofs.hex.hex_digit.Goals as goal

pub returns-then-n-lt-TEN : goal.returns-then-n-lt-TEN
returns-then-n-lt-TEN c = search digits

pub returns-else-n-lt-TEN : goal.returns-else-n-lt-TEN
returns-else-n-lt-TEN c = search digits
