use Rattle.configuration.proofs.StartingLaws.{making}
use Rattle.configuration.proofs.starting.start_record.Goals as goal

pub returns : goal.returns
returns c = search making
