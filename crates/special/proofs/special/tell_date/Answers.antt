use Rattle.special.proofs.Telling.{clock}
use Rattle.special.proofs.special.tell_date.Goals as goal

pub put_decimal-requires : goal.put_decimal-requires
put_decimal-requires c = search clock

pub put_decimal-requires-2 : goal.put_decimal-requires-2
put_decimal-requires-2 c = search clock

pub put_decimal-requires-3 : goal.put_decimal-requires-3
put_decimal-requires-3 c = search clock

pub returns : goal.returns
returns c = search clock
