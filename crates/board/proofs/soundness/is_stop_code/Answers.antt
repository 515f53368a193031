use Rattle.octets.proofs.Junctions.{junctions}
use Rattle.board.proofs.Checks.{stop-told}
use Rattle.board.proofs.soundness.is_stop_code.Goals as goal

pub returns : goal.returns
returns c = stop-told _ _ _ _ c.two_at.ensures c.is_some_and.ensures (λ v p. search junctions)
