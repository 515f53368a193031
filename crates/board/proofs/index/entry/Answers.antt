use Rattle.board.proofs.IndexLaws.{entering}
use Rattle.board.proofs.index.entry.Goals as goal

pub returns-in-32-to-126 : goal.returns-in-32-to-126
returns-in-32-to-126 c = search entering

pub returns-in_default : goal.returns-in_default
returns-in_default c = search entering

pub returns-in_default-2 : goal.returns-in_default-2
returns-in_default-2 c = search entering
