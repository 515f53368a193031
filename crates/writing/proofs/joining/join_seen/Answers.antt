use Rattle.writing.proofs.JoiningLaws.{seconds}
use Rattle.writing.proofs.joining.join_seen.Goals as goal

pub returns-then-not-right : goal.returns-then-not-right
returns-then-not-right c = search seconds

pub returns : goal.returns
returns c = search seconds
