use Rattle.board.proofs.SoundnessLaws.{sounding}
use Rattle.board.proofs.soundness.sound.Goals as goal

pub returns-then-in_range : goal.returns-then-in_range
returns-then-in_range c = search sounding

pub returns-else-in_range : goal.returns-else-in_range
returns-else-in_range c = search sounding
