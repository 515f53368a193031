use Rattle.forms.proofs.FormsLaws.{capitals}
use Rattle.forms.proofs.forms.put_header.Goals as goal

pub loop-i-init : goal.loop-i-init
loop-i-init c = search capitals

pub put_one-next-requires : goal.put_one-next-requires
put_one-next-requires c = search capitals

pub loop-i-preserved : goal.loop-i-preserved
loop-i-preserved c = search capitals

pub returns : goal.returns
returns c = search capitals
