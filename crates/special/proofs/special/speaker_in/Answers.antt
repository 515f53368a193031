use Rattle.special.proofs.Settles.{speaking}
use Rattle.special.proofs.special.speaker_in.Goals as goal

pub returns-then-same : goal.returns-then-same
returns-then-same c = search speaking

pub returns-then-same-2 : goal.returns-then-same-2
returns-then-same-2 c = search speaking

pub returns : goal.returns
returns c = search speaking
