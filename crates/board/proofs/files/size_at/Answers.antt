use Rattle.board.proofs.Checks.{sizing}
use Rattle.board.proofs.files.size_at.Goals as goal

pub returns : goal.returns
returns c = search sizing
