use Rattle.board.proofs.Checks.{recording}
use Rattle.board.proofs.soundness.is_record.Goals as goal

pub returns : goal.returns
returns c = search recording
