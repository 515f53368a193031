use Rattle.commands.proofs.BlocksLaws.{choosing}
use Rattle.commands.proofs.blocks.file_block.Goals as goal

pub returns-then-not-right : goal.returns-then-not-right
returns-then-not-right c = search choosing

pub returns : goal.returns
returns c = search choosing
