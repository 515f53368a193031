use Rattle.effects.proofs.ReplyLaws.{around}
use Rattle.effects.proofs.reply.put_lead.Goals as goal

pub returns : goal.returns
returns c = search around
