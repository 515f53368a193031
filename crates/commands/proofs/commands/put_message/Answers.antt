use Rattle.commands.proofs.Puts.{puts}
use Rattle.commands.proofs.commands.put_message.Goals as goal

pub look_up-requires : goal.look_up-requires
look_up-requires c = search puts

pub returns-in_default : goal.returns-in_default
returns-in_default c = search puts

pub hold-requires : goal.hold-requires
hold-requires c = search puts

pub returns-then-message-size : goal.returns-then-message-size
returns-then-message-size c = search puts

pub returns : goal.returns
returns c = search puts
