use Rattle.commands.proofs.Gets.{gets}
use Rattle.commands.proofs.commands.tell_content.Goals as goal

pub slice_bounds-copy_at-end : goal.slice_bounds-copy_at-end
slice_bounds-copy_at-end c = search gets

pub returns : goal.returns
returns c = search gets
