use Rattle.port.proofs.Telling.{correcting}
use Rattle.port.proofs.temperatures.pagozkin_add_offset.Goals as goal

pub add_offset-requires : goal.add_offset-requires
add_offset-requires c = search correcting

pub returns : goal.returns
returns c = search correcting
