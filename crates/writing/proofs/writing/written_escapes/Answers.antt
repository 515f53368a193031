use Rattle.writing.proofs.WritingLaws.{escaped}
use Rattle.writing.proofs.writing.written_escapes.Goals as goal

pub returns-in-Printable : goal.returns-in-Printable
returns-in-Printable c = search escaped

pub returns-in_default : goal.returns-in_default
returns-in_default c = search escaped
