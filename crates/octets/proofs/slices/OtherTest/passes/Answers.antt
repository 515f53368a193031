use mathlib.Core.Path.{refl}
use Rattle.octets.specs.InnerEqual.{differs}
use Rattle.octets.proofs.slices.OtherTest.passes.Goals as goal

pub returns : goal.returns
unfolding differs
returns c = refl
