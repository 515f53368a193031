use mathlib.Core.Path.{refl}
use lib.ListN.{length}
use Rattle.board.specs.Board.{board}
use Rattle.board.proofs.Inside.{sound-most}
use Rattle.configuration.proofs.ConfigurationLaws.{replace-listed, replace-done, replacing}
use Rattle.configuration.proofs.configuration.replace.Goals as goal

pub lay-kept-requires : goal.lay-kept-requires
lay-kept-requires c =
    replace-listed c.args.list.now (length c.args.m.now) c.in-Ok.ensures.number c.in-Ok.records.now c.in-Ok.ensures.records c.args.m.now refl
    (sound-most (board c.args.s c.args.m.now) c.requires)

pub overflow_cast-records : goal.overflow_cast-records
overflow_cast-records c = search replacing

pub returns-in-Err : goal.returns-in-Err
returns-in-Err c = search replacing

pub returns : goal.returns
returns c =
    replace-done c.args.list.now (length c.args.m.now) c.in-Ok.ensures.number c.in-Ok.records.now c.in-Ok.ensures.records
    c.args.m.now c.lay-kept.new.m c.lay-kept.result c.lay-kept.ensures (board c.args.s c.args.m.now) refl refl c.with_files.result c.with_files.ensures
