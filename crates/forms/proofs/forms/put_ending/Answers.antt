use Rattle.forms.proofs.FormsLaws.{parts}
use Rattle.forms.proofs.forms.put_ending.Goals as goal

pub put_one-next-requires : goal.put_one-next-requires
put_one-next-requires c = search parts

pub put_sum-requires : goal.put_sum-requires
put_sum-requires c = search parts

pub returns-in-Plain : goal.returns-in-Plain
returns-in-Plain c = search parts

pub returns-in_default : goal.returns-in_default
returns-in_default c = search parts
