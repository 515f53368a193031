use Rattle.std.proofs.lemmas.Result.{err_from_is_err_and}
use Rattle.writing.proofs.TakingLaws.{taking}
use Rattle.writing.proofs.taking.take_room.Goals as goal

pub returns-in_err-read_parts : goal.returns-in_err-read_parts
returns-in_err-read_parts c =
    let p = err_from_is_err_and c.from_residual.result c.from_residual.ensures.1 in
    rw (p.1, p.2) (search (taking, c.in_err-read_parts.was))

pub take_parts-requires : goal.take_parts-requires
take_parts-requires c = search (taking, c.in_ok-read_parts.was)

pub returns : goal.returns
returns c = search (taking, c.in_ok-read_parts.was)
