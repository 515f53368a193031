use Rattle.std.proofs.lemmas.Result.{err_from_is_err_and}
use Rattle.writing.proofs.TakingLaws.{taking}
use Rattle.writing.proofs.taking.see_standard.Goals as goal

pub returns-in_err-read_standard : goal.returns-in_err-read_standard
returns-in_err-read_standard c =
    let p = err_from_is_err_and c.from_residual.result c.from_residual.ensures.1 in
    rw (p.1, p.2) (search (taking, c.in_err-read_standard.was))

pub take_parts-requires : goal.take_parts-requires
take_parts-requires c = search (taking, c.in_ok-read_standard.was)

pub returns : goal.returns
returns c = search (taking, c.in_ok-read_standard.was)
