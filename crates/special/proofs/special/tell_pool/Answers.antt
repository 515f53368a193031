use Rattle.special.proofs.Telling.{pool}
use Rattle.special.proofs.special.tell_pool.Goals as goal

pub returns : goal.returns
returns c = search pool
