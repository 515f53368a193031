use Rattle.board.proofs.Checks.{sizing}
use Rattle.board.proofs.files.file_length.Goals as goal

pub overflow_add-result : goal.overflow_add-result
overflow_add-result c = search sizing
