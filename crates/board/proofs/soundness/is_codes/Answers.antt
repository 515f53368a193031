use Rattle.board.proofs.Checks.{coding}
use Rattle.board.proofs.soundness.is_codes.Goals as goal

pub returns-then-is_start_code : goal.returns-then-is_start_code
returns-then-is_start_code c = search coding

pub returns-else-is_start_code : goal.returns-else-is_start_code
returns-else-is_start_code c = search coding

pub returns-then-are_zeros : goal.returns-then-are_zeros
returns-then-are_zeros c = search coding

pub returns-else-are_zeros : goal.returns-else-are_zeros
returns-else-are_zeros c = search coding

pub returns-in_default : goal.returns-in_default
returns-in_default c = search coding
