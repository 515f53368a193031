use Rattle.special.proofs.Telling.{listed}
use Rattle.special.proofs.special.is_told.Goals as goal

pub returns-in_default : goal.returns-in_default
returns-in_default c = search listed

pub returns-in_default-2 : goal.returns-in_default-2
returns-in_default-2 c = search listed

pub returns-in_default-3 : goal.returns-in_default-3
returns-in_default-3 c = search listed

pub returns-in-32 : goal.returns-in-32
returns-in-32 c = search listed

pub returns-in-32-2 : goal.returns-in-32-2
returns-in-32-2 c = search listed

pub returns-in-32-3 : goal.returns-in-32-3
returns-in-32-3 c = search listed
