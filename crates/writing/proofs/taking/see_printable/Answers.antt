use Rattle.std.proofs.lemmas.Result.{err_from_is_err_and}
use Rattle.writing.proofs.TakingLaws.{printables}
use Rattle.writing.proofs.taking.see_printable.Goals as goal

pub returns-in_err-length : goal.returns-in_err-length
returns-in_err-length c =
    let p = err_from_is_err_and c.from_residual.result c.from_residual.ensures.1 in
    rw (p.1, p.2) (search (printables, c.in_err-length.was))

pub shared_ref_as_front-take_room : goal.shared_ref_as_front-take_room
shared_ref_as_front-take_room c = search (printables, c.in_ok-length.was)

pub returns : goal.returns
returns c = search (printables, c.in_ok-length.was)
