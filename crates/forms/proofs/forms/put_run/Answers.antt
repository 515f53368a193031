use Rattle.forms.proofs.FormsLaws.{runs}
use Rattle.forms.proofs.forms.put_run.Goals as goal

pub returns : goal.returns
returns c = search runs
