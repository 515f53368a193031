use borrow.Author.Rules.{rules}
use Rattle.effects.specs.Reply.{reply_room}
use Rattle.effects.proofs.reply.reply_room.Goals as goal

pub returns : goal.returns
unfolding reply_room
returns c = search rules
