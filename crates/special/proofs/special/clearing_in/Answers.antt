use Rattle.special.proofs.Settles.{clearing}
use Rattle.special.proofs.special.clearing_in.Goals as goal

pub returns-in-empty : goal.returns-in-empty
returns-in-empty c = search clearing

pub returns-in_default : goal.returns-in_default
returns-in_default c = search clearing
