use Rattle.std.proofs.lemmas.Result.{err_from_is_err_and}
use Rattle.writing.proofs.ReformingLaws.{reforms}
use Rattle.writing.proofs.reforming.reform_frame.Goals as goal

pub returns-in_err-form : goal.returns-in_err-form
returns-in_err-form c =
    let p = err_from_is_err_and c.from_residual.result c.from_residual.ensures.1 in
    rw (p.1, p.2) (search (reforms, c.in_err-form.was))

pub returns-then-is_printable : goal.returns-then-is_printable
returns-then-is_printable c = search (reforms, c.in_ok-form.was)

pub returns-in_err-take_standard : goal.returns-in_err-take_standard
returns-in_err-take_standard c =
    let p = err_from_is_err_and c.from_residual-in_err-take_standard.result c.from_residual-in_err-take_standard.ensures.1 in
    rw (p.1, p.2) (search (reforms, c.in_ok-form.was, c.in_err-take_standard.ensures))

pub returns : goal.returns
returns c = search (reforms, c.in_ok-form.was, c.in_ok-take_standard.was)
