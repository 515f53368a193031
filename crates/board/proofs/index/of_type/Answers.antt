use Rattle.board.proofs.IndexLaws.{looking}
use Rattle.board.proofs.index.of_type.Goals as goal

pub returns-then-is_type : goal.returns-then-is_type
returns-then-is_type c = search looking

pub returns-else-is_type : goal.returns-else-is_type
returns-else-is_type c = search looking
