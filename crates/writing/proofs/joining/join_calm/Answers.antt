use Rattle.writing.proofs.Results.{delivering}
use Rattle.writing.proofs.joining.join_calm.Goals as goal

pub returns-in_err-fit_both : goal.returns-in_err-fit_both
returns-in_err-fit_both c = search delivering

pub put_joined-requires : goal.put_joined-requires
put_joined-requires c = search (delivering, c.in_ok-fit_both.was)

pub returns : goal.returns
returns c = search (delivering, c.in_ok-fit_both.was)
