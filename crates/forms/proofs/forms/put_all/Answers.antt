use Rattle.forms.proofs.FormsLaws.{runs}
use Rattle.forms.proofs.forms.put_all.Goals as goal

pub put_run-requires : goal.put_run-requires
put_run-requires c = search runs

pub returns-in_default : goal.returns-in_default
returns-in_default c = search runs
