use Rattle.writing.proofs.Results.{wholes}
use Rattle.writing.proofs.reforming.put_reformed.Goals as goal

pub put_headed-next-requires : goal.put_headed-next-requires
put_headed-next-requires c = search wholes

pub put_eot-requires : goal.put_eot-requires
put_eot-requires c = search wholes

pub returns : goal.returns
returns c = search wholes
