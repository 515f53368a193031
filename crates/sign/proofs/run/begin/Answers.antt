use Rattle.sign.proofs.Answering.{beginning}
use Rattle.sign.proofs.run.begin.Goals as goal

pub returns-then-starts : goal.returns-then-starts
returns-then-starts c = search beginning

pub returns : goal.returns
returns c = search beginning
