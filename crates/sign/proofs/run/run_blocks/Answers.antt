use mathlib.Core.Path.{refl}
use native.Mathlib.Omega.{arith}
use Rattle.octets.specs.Bytes.{BLOCKS}
use Rattle.sign.proofs.Going.{going_start, going-last, going-more, going}
use Rattle.sign.proofs.run.run_blocks.Goals as goal

pub loop-init : goal.loop-init
loop-init c =
    going_start {s = c.args.s} {m = c.args.m.now} c.requires c.untouched-ran.result c.untouched-ran.ensures BLOCKS refl

pub returns-in-Stray : goal.returns-in-Stray
returns-in-Stray c = search going

pub run_block-requires : goal.run_block-requires
run_block-requires c = search going

pub returns-in-Last : goal.returns-in-Last
returns-in-Last c =
    going-last c.loop.invariant (omega arith) c.step_from.result c.step_from.ensures
    c.in-Last.block _ c.run_block.ensures c.in-Last.is

pub run_block-requires-in-More : goal.run_block-requires-in-More
run_block-requires-in-More c = search going

pub loop-preserved : goal.loop-preserved
loop-preserved c =
    going-more c.loop.invariant (omega arith) c.step_from.result c.step_from.ensures
    c.in-More.block _ c.run_block-in-More.ensures
    c.in-More.next c.in-More.is c.run_block-in-More.auto.m c.run_block-in-More.auto.out _ (omega arith)

pub returns : goal.returns
returns c = search going
