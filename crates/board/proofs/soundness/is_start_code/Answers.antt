use Rattle.octets.proofs.Junctions.{junctions}
use Rattle.board.proofs.Checks.{start-told}
use Rattle.board.proofs.soundness.is_start_code.Goals as goal

pub returns : goal.returns
returns c = start-told _ _ _ _ c.two_at.ensures c.is_some_and.ensures (λ v p. search junctions)
