use mathlib.Core.Path.{refl}
use Rattle.octets.specs.InnerEqual.{equals}
use Rattle.octets.proofs.slices.IsTest.passes.Goals as goal

pub returns : goal.returns
unfolding equals
returns c = refl
