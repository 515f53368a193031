use Rattle.board.proofs.SoundnessLaws.{Holding}
use Rattle.board.proofs.soundness.holds_files.Given as goal

abbrev pub invariant-loop-i : goal.invariant-loop-i
invariant-loop-i l = Holding l.places l.m l.n l.at l._i
