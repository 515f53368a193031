use Rattle.special.proofs.Telling.{behind}
use Rattle.special.proofs.special.after_told.Goals as goal

pub returns-then-label-eq-ERRORS : goal.returns-then-label-eq-ERRORS
returns-then-label-eq-ERRORS c = search behind

pub returns-else-label-eq-ERRORS : goal.returns-else-label-eq-ERRORS
returns-else-label-eq-ERRORS c = search behind
