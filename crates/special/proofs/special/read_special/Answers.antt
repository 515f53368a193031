use Rattle.special.proofs.Telling.{reading}
use Rattle.special.proofs.special.read_special.Goals as goal

pub returns : goal.returns
returns c = search reading
