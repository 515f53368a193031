use Rattle.reading.proofs.Rooms.{printable, printable-refused}
use Rattle.reading.proofs.reading.read_printable.Goals as goal
use Rattle.std.proofs.lemmas.Result.{err_from_is_err_and}

pub returns-in_err-length : goal.returns-in_err-length
returns-in_err-length c =
    let p = err_from_is_err_and c.from_residual.result c.from_residual.ensures.1 in
    rw (p.1, p.2) (printable-refused _ _ _ c.requires _ c.in_err-length.ensures)

pub shared_ref_as_front-read_parts : goal.shared_ref_as_front-read_parts
shared_ref_as_front-read_parts c = search (printable, c.in_ok-length.ensures)
