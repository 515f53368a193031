use Prim.Native.Nat.{◌-◌}
use Rattle.special.proofs.Telling.{Gathering}
use Rattle.special.proofs.special.tell_records.Given as goal

abbrev pub invariant-loop : goal.invariant-loop
invariant-loop l = Gathering l.m l.n l.initial.out l.out l.at l.place (l.n - l.counter)
