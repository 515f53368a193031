use Rattle.writing.proofs.TakingLaws.{sums}
use Rattle.writing.proofs.taking.right_sums.Goals as goal

pub returns-then-not-right : goal.returns-then-not-right
returns-then-not-right c = search sums

pub returns : goal.returns
returns c = search sums
