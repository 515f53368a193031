use Rattle.writing.proofs.TakingLaws.{taking}
use Rattle.writing.proofs.taking.take_parts.Goals as goal

pub returns : goal.returns
returns c = search taking
