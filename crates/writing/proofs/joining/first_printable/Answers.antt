use Rattle.writing.proofs.JoiningLaws.{firsts}
use Rattle.writing.proofs.joining.first_printable.Goals as goal

pub returns-in_err-take_printable : goal.returns-in_err-take_printable
returns-in_err-take_printable c = search firsts
