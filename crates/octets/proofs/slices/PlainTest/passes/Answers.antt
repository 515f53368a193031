use mathlib.Core.Path.{refl}
use Rattle.octets.specs.Bytes.{is_plain}
use Rattle.octets.proofs.slices.PlainTest.passes.Goals as goal

pub returns : goal.returns
unfolding is_plain
returns c = refl
