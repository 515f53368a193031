use Rattle.special.proofs.Settles.{writing}
use Rattle.special.proofs.special.write_special.Goals as goal

pub returns-then-text-eq0 : goal.returns-then-text-eq0
returns-then-text-eq0 c = search writing

pub returns-then-label-eq-CONFIGURATION : goal.returns-then-label-eq-CONFIGURATION
returns-then-label-eq-CONFIGURATION c = search writing

pub returns : goal.returns
returns c = search writing
