use Rattle.writing.proofs.Results.{delivering}
use Rattle.writing.proofs.reforming.reform_right.Goals as goal

pub returns-in_err-fit_reformed : goal.returns-in_err-fit_reformed
returns-in_err-fit_reformed c = search delivering

pub put_reformed-requires : goal.put_reformed-requires
put_reformed-requires c = search (delivering, c.in_ok-fit_reformed.was)

pub returns : goal.returns
returns c = search (delivering, c.in_ok-fit_reformed.was)
