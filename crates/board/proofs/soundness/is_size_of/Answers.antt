use Rattle.board.proofs.Checks.{branching}
use Rattle.octets.proofs.Junctions.{junctions}
use Rattle.board.proofs.soundness.is_size_of.Goals as goal

pub returns-then-nought : goal.returns-then-nought
returns-then-nought c = search (branching, junctions)

pub returns-else-nought : goal.returns-else-nought
returns-else-nought c = search (branching, junctions)

pub returns-then-size-ge1 : goal.returns-then-size-ge1
returns-then-size-ge1 c = search (branching, junctions)

pub returns-else-size-ge1 : goal.returns-else-size-ge1
returns-else-size-ge1 c = search (branching, junctions)

pub returns-in_default : goal.returns-in_default
returns-in_default c = search (branching, junctions)
