use Rattle.sign.proofs.Counting.{counting}
use Rattle.sign.proofs.Tally.measure.Goals as goal

pub returns-then-n-eq0 : goal.returns-then-n-eq0
returns-then-n-eq0 c = search counting

pub returns : goal.returns
returns c = search counting
