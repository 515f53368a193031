use Rattle.writing.proofs.TakingLaws.{sums}
use Rattle.writing.proofs.taking.take_printable.Goals as goal

pub returns-in_err-see_printable : goal.returns-in_err-see_printable
returns-in_err-see_printable c = search sums
