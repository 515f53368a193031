use Rattle.board.proofs.Checks.{labelling}
use Rattle.board.proofs.soundness.is_label.Goals as goal

pub returns-in-48 : goal.returns-in-48
returns-in-48 c = search labelling

pub returns-in-32-to-126 : goal.returns-in-32-to-126
returns-in-32-to-126 c = search labelling

pub returns-in_default : goal.returns-in_default
returns-in_default c = search labelling

pub returns-in_default-2 : goal.returns-in_default-2
returns-in_default-2 c = search labelling
