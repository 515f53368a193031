use Rattle.writing.proofs.WritingLaws.{fitting}
use Rattle.writing.proofs.writing.fit_written.Goals as goal

pub returns-then-bytes-gt-TRANSLATED : goal.returns-then-bytes-gt-TRANSLATED
returns-then-bytes-gt-TRANSLATED c = search fitting

pub fit-requires : goal.fit-requires
fit-requires c = search fitting

pub returns : goal.returns
returns c = search fitting
