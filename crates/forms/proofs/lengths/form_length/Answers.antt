use Rattle.forms.proofs.LengthsLaws.{reckoned}
use Rattle.forms.proofs.lengths.form_length.Goals as goal

pub returns-in-Plain : goal.returns-in-Plain
returns-in-Plain c = search reckoned

pub returns-in-Summed : goal.returns-in-Summed
returns-in-Summed c = search reckoned

pub returns-in-Printable : goal.returns-in-Printable
returns-in-Printable c = search reckoned
