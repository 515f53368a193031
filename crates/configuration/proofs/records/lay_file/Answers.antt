use Rattle.configuration.proofs.Laying.{filing}
use Rattle.configuration.proofs.records.lay_file.Goals as goal

pub returns : goal.returns
returns c = search filing
