use Rattle.forms.proofs.FormsLaws.{parts}
use Rattle.forms.proofs.forms.put_parting.Goals as goal

pub put_one-requires : goal.put_one-requires
put_one-requires c = search parts

pub returns-then-first : goal.returns-then-first
returns-then-first c = search parts

pub returns-else-first : goal.returns-else-first
returns-else-first c = search parts

pub returns-in_default : goal.returns-in_default
returns-in_default c = search parts
