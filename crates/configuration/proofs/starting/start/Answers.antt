use Rattle.configuration.proofs.StartingLaws.{starting}
use Rattle.configuration.proofs.starting.start.Goals as goal

pub lay-kept-requires : goal.lay-kept-requires
lay-kept-requires c = search starting

pub returns : goal.returns
returns c = search starting
