use Rattle.board.proofs.Checks.{recording}
use Rattle.board.proofs.soundness.record_or_none.Goals as goal

pub returns-then-is_codes : goal.returns-then-is_codes
returns-then-is_codes c = search recording

pub returns-else-is_named : goal.returns-else-is_named
returns-else-is_named c = search recording
