use native.Mathlib.Omega.{arith}
use Rattle.special.proofs.Telling.{gather-room, gather-whole, gathering}
use Rattle.special.proofs.special.tell_records.Goals as goal

pub loop-init : goal.loop-init
loop-init c = search gathering

pub slice_bounds-copy_at-end : goal.slice_bounds-copy_at-end
slice_bounds-copy_at-end c = search gathering

pub copy_at-requires : goal.copy_at-requires
copy_at-requires c = gather-room c.loop.invariant (omega arith)

pub overflow_add-at : goal.overflow_add-at
overflow_add-at c = search gathering

pub loop-preserved : goal.loop-preserved
loop-preserved c = search gathering

pub returns : goal.returns
returns c = gather-whole c.loop.invariant (omega arith)
