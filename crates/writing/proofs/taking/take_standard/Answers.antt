use Rattle.writing.proofs.TakingLaws.{sums}
use Rattle.writing.proofs.taking.take_standard.Goals as goal

pub returns-in_err-see_standard : goal.returns-in_err-see_standard
returns-in_err-see_standard c = search sums
