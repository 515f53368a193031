use Rattle.commands.proofs.Gets.{gets}
use Rattle.commands.proofs.commands.get_content.Goals as goal

pub look_up-requires : goal.look_up-requires
look_up-requires c = search gets

pub returns-in_default : goal.returns-in_default
returns-in_default c = search gets

pub overflow_add-end : goal.overflow_add-end
overflow_add-end c = search gets

pub slice_bounds-tell_content-end : goal.slice_bounds-tell_content-end
slice_bounds-tell_content-end c = search gets

pub tell_content-n-requires : goal.tell_content-n-requires
tell_content-n-requires c = search gets

pub reply-length-requires : goal.reply-length-requires
reply-length-requires c = search gets

pub returns : goal.returns
returns c = search gets
