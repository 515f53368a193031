use Rattle.reading.proofs.Chars.{runs}
use Rattle.reading.proofs.translation.put_unmarked.Goals as goal

pub slice_bounds-copy_at-end : goal.slice_bounds-copy_at-end
slice_bounds-copy_at-end c = search runs

pub returns : goal.returns
returns c = search runs
