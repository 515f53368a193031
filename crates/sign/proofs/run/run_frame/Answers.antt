use mathlib.Core.Path.{refl}
use Rattle.board.specs.Board.{board}
use Rattle.sign.proofs.Answering.{frame_refused, frame-ran, framing}
use Rattle.sign.proofs.run.run_frame.Goals as goal

pub returns-in-Err : goal.returns-in-Err
returns-in-Err c =
    frame_refused (board c.args.s c.args.m.now) c.args.out.now c.args.t.now c.args.header c.args.from
    c.in-Err.refusal c.in-Err.ensures c.number.result c.number.ensures c.untouched.result c.untouched.ensures c.args.m.now refl

pub run_begun-requires-clause-in_bounds : goal.run_begun-requires-clause-in_bounds
run_begun-requires-clause-in_bounds c = search framing

pub returns : goal.returns
returns c =
    frame-ran (board c.args.s c.args.m.now) c.args.out.now c.args.t.now c.args.header c.args.from
    c.in_default.ensures c.run_begun.result c.run_begun.new.m c.run_begun.new.out c.run_begun.ensures
