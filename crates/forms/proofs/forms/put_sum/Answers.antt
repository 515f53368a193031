use Rattle.forms.proofs.FormsLaws.{parts}
use Rattle.forms.proofs.forms.put_sum.Goals as goal

pub returns : goal.returns
returns c = search parts
