use Rattle.std.proofs.lemmas.Result.{err_from_is_err_and}
use Rattle.writing.proofs.WritingLaws.{writing}
use Rattle.writing.proofs.writing.write_frame.Goals as goal

pub returns-in_err-form : goal.returns-in_err-form
returns-in_err-form c =
    let p = err_from_is_err_and c.from_residual.result c.from_residual.ensures.1 in
    rw (p.1, p.2) (search (writing, c.in_err-form.was))

pub returns-then-not-is_header : goal.returns-then-not-is_header
returns-then-not-is_header c = search (writing, c.in_ok-form.was)

pub returns-then-command-lt-PLAIN : goal.returns-then-command-lt-PLAIN
returns-then-command-lt-PLAIN c = search (writing, c.in_ok-form.was)

pub returns-in_default : goal.returns-in_default
returns-in_default c = search (writing, c.in_ok-form.was)

pub invariant_of-single : goal.invariant_of-single
invariant_of-single c = search (writing, c.in_ok-form.was)

pub returns : goal.returns
returns c = search (writing, c.in_ok-form.was)
