use Rattle.forms.proofs.FormsLaws.{copying}
use Rattle.forms.proofs.forms.put_each.Goals as goal

pub loop-b-init : goal.loop-b-init
loop-b-init c = search copying

pub put_one-next-requires : goal.put_one-next-requires
put_one-next-requires c = search copying

pub loop-b-preserved : goal.loop-b-preserved
loop-b-preserved c = search copying
