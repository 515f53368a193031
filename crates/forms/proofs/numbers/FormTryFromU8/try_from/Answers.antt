use Rattle.forms.proofs.FormNumbers.{numbering}
use Rattle.forms.proofs.numbers.FormTryFromU8.try_from.Goals as goal

pub returns-in-1 : goal.returns-in-1
returns-in-1 c = search numbering

pub returns-in-2 : goal.returns-in-2
returns-in-2 c = search numbering

pub returns-in-3 : goal.returns-in-3
returns-in-3 c = search numbering

pub returns-in_default : goal.returns-in_default
returns-in_default c = search numbering
