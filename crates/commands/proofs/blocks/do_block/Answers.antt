use Rattle.commands.proofs.BlocksLaws.{doing}
use Rattle.commands.proofs.blocks.do_block.Goals as goal

pub returns-then-not-right : goal.returns-then-not-right
returns-then-not-right c = search doing

pub returns-in-69 : goal.returns-in-69
returns-in-69 c = search doing

pub returns-in-70 : goal.returns-in-70
returns-in-70 c = search doing

pub returns-in_default : goal.returns-in_default
returns-in_default c = search doing
