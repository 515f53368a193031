use Rattle.buffers.proofs.Stores.{Copying}
use Rattle.buffers.proofs.copying.copy_at.Given as goal

abbrev pub invariant-loop-j : goal.invariant-loop-j
invariant-loop-j l = Copying l.fn.dst l.at l.src l.dst l.j
