use Rattle.octets.proofs.Junctions.{junctions}
use Rattle.board.specs.Soundness.{is_protection}
use Rattle.board.proofs.soundness.is_protection.Goals as goal

pub returns-then-p-eq-UNLOCKED : goal.returns-then-p-eq-UNLOCKED
unfolding is_protection
returns-then-p-eq-UNLOCKED c = search junctions

pub returns-else-p-eq-UNLOCKED : goal.returns-else-p-eq-UNLOCKED
unfolding is_protection
returns-else-p-eq-UNLOCKED c = search junctions
