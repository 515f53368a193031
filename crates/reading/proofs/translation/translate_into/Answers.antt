use Rattle.reading.proofs.Chars.{filling}
use Rattle.reading.proofs.translation.translate_into.Goals as goal

pub loop-i-init : goal.loop-i-init
loop-i-init c = search filling

pub put_unmarked-mark-requires : goal.put_unmarked-mark-requires
put_unmarked-mark-requires c = search filling

pub returns-then-s-mark : goal.returns-then-s-mark
returns-then-s-mark c = search filling

pub returns-in_default : goal.returns-in_default
returns-in_default c = search filling

pub loop-i-preserved : goal.loop-i-preserved
loop-i-preserved c = search filling

pub returns : goal.returns
returns c = search filling
