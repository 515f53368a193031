use Rattle.forms.proofs.FormsLaws.{headings}
use Rattle.forms.proofs.forms.put_nuls.Goals as goal

pub put_run-requires : goal.put_run-requires
put_run-requires c = search headings

pub returns-in-Printable : goal.returns-in-Printable
returns-in-Printable c = search headings

pub returns-in_default : goal.returns-in_default
returns-in_default c = search headings
