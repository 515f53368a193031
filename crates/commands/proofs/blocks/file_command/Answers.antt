use Rattle.commands.proofs.BlocksLaws.{choosing}
use Rattle.commands.proofs.blocks.file_command.Goals as goal

pub returns-in-65 : goal.returns-in-65
returns-in-65 c = search choosing

pub returns-in-71 : goal.returns-in-71
returns-in-71 c = search choosing

pub returns-in-66 : goal.returns-in-66
returns-in-66 c = search choosing

pub returns-in-72 : goal.returns-in-72
returns-in-72 c = search choosing

pub returns-in_default : goal.returns-in_default
returns-in_default c = search choosing
