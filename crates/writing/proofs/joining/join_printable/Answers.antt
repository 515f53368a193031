use Rattle.writing.proofs.JoiningLaws.{seconds}
use Rattle.writing.proofs.joining.join_printable.Goals as goal

pub returns-in_err-see_printable : goal.returns-in_err-see_printable
returns-in_err-see_printable c = search seconds
