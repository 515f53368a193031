use Rattle.reading.proofs.Marks.{Standing}
use Rattle.reading.proofs.translation.all_stand.Given as goal

abbrev pub invariant-loop-i : goal.invariant-loop-i
invariant-loop-i l = Standing l.s l.passed l.i

abbrev pub invariant-loop-i-2 : goal.invariant-loop-i-2
invariant-loop-i-2 l = Standing l.s l.passed l.i
