use Rattle.forms.proofs.LengthsLaws.{reckoned}
use Rattle.forms.proofs.lengths.render_length.Goals as goal

pub returns-in-Printable : goal.returns-in-Printable
returns-in-Printable c = search reckoned

pub returns-in_default : goal.returns-in_default
returns-in_default c = search reckoned
