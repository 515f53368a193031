use Rattle.sign.proofs.Answering.{answering}
use Rattle.sign.proofs.run.run.Goals as goal

pub returns-then-not-sound : goal.returns-then-not-sound
returns-then-not-sound c = search answering

pub reply_room-requires : goal.reply_room-requires
reply_room-requires c = search answering

pub returns-then-out-reply_room : goal.returns-then-out-reply_room
returns-then-out-reply_room c = search answering

pub returns-then-is_printable : goal.returns-then-is_printable
returns-then-is_printable c = search answering

pub returns : goal.returns
returns c = search answering
