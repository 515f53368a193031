use Rattle.commands.proofs.Puts.{puts}
use Rattle.commands.proofs.commands.write_file.Goals as goal

pub returns-in-empty : goal.returns-in-empty
returns-in-empty c = search puts

pub returns-in-len1-up : goal.returns-in-len1-up
returns-in-len1-up c = search puts
