use Rattle.commands.proofs.Gets.{gets}
use Rattle.commands.proofs.commands.read_file.Goals as goal

pub returns-in-len1 : goal.returns-in-len1
returns-in-len1 c = search gets

pub returns-in_default : goal.returns-in_default
returns-in_default c = search gets

pub returns-in_default-2 : goal.returns-in_default-2
returns-in_default-2 c = search gets
