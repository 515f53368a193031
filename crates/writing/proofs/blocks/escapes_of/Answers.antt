use Rattle.writing.proofs.Reckonings.{escaping}
use Rattle.writing.proofs.blocks.escapes_of.Goals as goal

pub returns-in-Printable : goal.returns-in-Printable
returns-in-Printable c = search escaping

pub returns-in_default : goal.returns-in_default
returns-in_default c = search escaping
