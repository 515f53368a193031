use Rattle.forms.proofs.FormsLaws.{parts}
use Rattle.forms.proofs.forms.put_opened.Goals as goal

pub put_command-next-requires : goal.put_command-next-requires
put_command-next-requires c = search parts

pub put_all-requires : goal.put_all-requires
put_all-requires c = search parts

pub returns : goal.returns
returns c = search parts
