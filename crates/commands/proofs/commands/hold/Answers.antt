use Rattle.commands.proofs.Puts.{puts}
use Rattle.commands.proofs.commands.hold.Goals as goal

pub returns : goal.returns
returns c = search puts
