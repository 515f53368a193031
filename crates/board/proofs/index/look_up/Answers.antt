use Rattle.board.proofs.IndexLaws.{looking}
use Rattle.board.proofs.index.look_up.Goals as goal

pub returns-in-65535 : goal.returns-in-65535
returns-in-65535 c = search looking

pub returns-in_default : goal.returns-in_default
returns-in_default c = search looking
