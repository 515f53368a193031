use Rattle.writing.proofs.JoiningLaws.{seconds}
use Rattle.writing.proofs.joining.join_second.Goals as goal

pub returns-in_err-see_standard : goal.returns-in_err-see_standard
returns-in_err-see_standard c = search seconds
