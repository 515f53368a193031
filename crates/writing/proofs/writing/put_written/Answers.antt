use Rattle.writing.proofs.Results.{written}
use Rattle.writing.proofs.writing.put_written.Goals as goal

pub put_heading-next-requires : goal.put_heading-next-requires
put_heading-next-requires c = search written

pub put_piece-end-requires-clause-takes : goal.put_piece-end-requires-clause-takes
put_piece-end-requires-clause-takes c = search written

pub put_eot-requires : goal.put_eot-requires
put_eot-requires c = search written

pub returns : goal.returns
returns c = search written
