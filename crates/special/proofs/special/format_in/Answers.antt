use Rattle.special.proofs.Settles.{formatting}
use Rattle.special.proofs.special.format_in.Goals as goal

pub returns-in-len1 : goal.returns-in-len1
returns-in-len1 c = search formatting

pub returns-in_default : goal.returns-in_default
returns-in_default c = search formatting

pub returns-in_default-2 : goal.returns-in_default-2
returns-in_default-2 c = search formatting

pub returns-in_default-3 : goal.returns-in_default-3
returns-in_default-3 c = search formatting
