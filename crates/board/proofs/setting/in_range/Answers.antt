use Rattle.octets.proofs.Junctions.{junctions}
use Rattle.board.specs.Settings.{in_range}
use Rattle.board.proofs.setting.in_range.Goals as goal

pub returns-then-is_register : goal.returns-then-is_register
unfolding in_range
returns-then-is_register c = search junctions

pub returns-else-is_register : goal.returns-else-is_register
unfolding in_range
returns-else-is_register c = search junctions
