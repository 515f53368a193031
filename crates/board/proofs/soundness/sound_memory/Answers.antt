use Rattle.board.proofs.SoundnessLaws.{sounding}
use Rattle.board.proofs.soundness.sound_memory.Goals as goal

pub returns-then-holds_files : goal.returns-then-holds_files
returns-then-holds_files c = search sounding

pub returns-else-holds_files : goal.returns-else-holds_files
returns-else-holds_files c = search sounding
