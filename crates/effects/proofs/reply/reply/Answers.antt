use Rattle.effects.proofs.ReplyLaws.{around}
use Rattle.effects.proofs.reply.reply.Goals as goal

pub returns : goal.returns
returns c = search around
