use Rattle.forms.proofs.FormsLaws.{parts}
use Rattle.forms.proofs.forms.put_command.Goals as goal

pub put_one-next-requires : goal.put_one-next-requires
put_one-next-requires c = search parts

pub put_one-requires : goal.put_one-requires
put_one-requires c = search parts

pub returns : goal.returns
returns c = search parts
