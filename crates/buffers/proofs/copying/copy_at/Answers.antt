use Rattle.buffers.proofs.Stores.{copies}
use Rattle.buffers.proofs.copying.copy_at.Goals as goal

pub loop-j-init : goal.loop-j-init
loop-j-init c = search copies

pub loop-j-preserved : goal.loop-j-preserved
loop-j-preserved c = search copies
