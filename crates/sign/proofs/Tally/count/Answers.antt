use Rattle.sign.proofs.Counting.{counting}
use Rattle.sign.proofs.Tally.count.Goals as goal

pub returns-then-number-eq0 : goal.returns-then-number-eq0
returns-then-number-eq0 c = search counting

pub returns-then-self-eq0 : goal.returns-then-self-eq0
returns-then-self-eq0 c = search counting

pub returns : goal.returns
returns c = search counting
