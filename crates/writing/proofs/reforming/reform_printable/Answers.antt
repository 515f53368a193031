use Rattle.writing.proofs.ReformingLaws.{reforming}
use Rattle.writing.proofs.reforming.reform_printable.Goals as goal

pub returns-in_err-take_printable : goal.returns-in_err-take_printable
returns-in_err-take_printable c = search reforming

pub returns : goal.returns
returns c = search reforming
