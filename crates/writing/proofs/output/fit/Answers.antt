use Rattle.writing.proofs.OutputLaws.{answering}
use Rattle.writing.proofs.output.fit.Goals as goal

pub returns-then-count-gt-BLOCKS : goal.returns-then-count-gt-BLOCKS
returns-then-count-gt-BLOCKS c = search answering

pub returns-then-long-gt-TRANSLATED : goal.returns-then-long-gt-TRANSLATED
returns-then-long-gt-TRANSLATED c = search answering

pub returns-then-room-raw : goal.returns-then-room-raw
returns-then-room-raw c = search answering

pub returns : goal.returns
returns c = search answering
