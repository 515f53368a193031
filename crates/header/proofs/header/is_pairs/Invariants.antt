use Rattle.header.proofs.Walks.{Joining}
use Rattle.header.proofs.header.is_pairs.Given as goal

abbrev pub invariant-loop : goal.invariant-loop
invariant-loop l = Joining l.h l.rest l.counter
