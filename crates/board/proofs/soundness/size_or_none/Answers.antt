use Rattle.board.proofs.Checks.{coding}
use Rattle.board.proofs.soundness.size_or_none.Goals as goal

pub returns-in_err-size : goal.returns-in_err-size
returns-in_err-size c = search coding

pub returns-then-is_size_of : goal.returns-then-is_size_of
returns-then-is_size_of c = search coding

pub returns-else-is_size_of : goal.returns-else-is_size_of
returns-else-is_size_of c = search coding
