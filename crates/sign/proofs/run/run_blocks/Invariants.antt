use Prim.Native.Nat.{◌-◌}
use Rattle.octets.specs.Bytes.{BLOCKS}
use Rattle.board.specs.Board.{board}
use Rattle.sign.specs.Run.{outcome}
use Rattle.sign.proofs.Going.{Going}
use Rattle.sign.proofs.run.run_blocks.Given as goal

abbrev pub invariant-loop : goal.invariant-loop
invariant-loop l = Going (board l.fn.s l.initial.m) l.initial.out l.t l.from (outcome l.ran l.m l.out) l.at (BLOCKS - l.counter)
