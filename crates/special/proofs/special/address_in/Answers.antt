use Rattle.special.proofs.Settles.{addressing}
use Rattle.special.proofs.special.address_in.Goals as goal

pub returns-then-d-ne2 : goal.returns-then-d-ne2
returns-then-d-ne2 c = search addressing

pub returns-in-Some : goal.returns-in-Some
returns-in-Some c = search addressing

pub returns-in-None : goal.returns-in-None
returns-in-None c = search addressing
