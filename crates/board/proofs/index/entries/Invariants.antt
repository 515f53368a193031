use Rattle.octets.proofs.Counts.{Counted}
use Rattle.board.specs.InnerNoted.{is_place}
use Rattle.board.proofs.index.entries.Given as goal

abbrev pub invariant-loop-place : goal.invariant-loop-place
invariant-loop-place l = Counted is_place l.places l.sum l.place-index
