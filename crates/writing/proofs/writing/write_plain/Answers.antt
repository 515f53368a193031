use Rattle.writing.proofs.Results.{delivering}
use Rattle.writing.proofs.writing.write_plain.Goals as goal

pub returns-in_err-fit_written : goal.returns-in_err-fit_written
returns-in_err-fit_written c = search delivering

pub put_written-requires : goal.put_written-requires
put_written-requires c = search (delivering, c.in_ok-fit_written.was)

pub returns : goal.returns
returns c = search (delivering, c.in_ok-fit_written.was)
