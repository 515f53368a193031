use mathlib.Core.Path.{refl}
use Rattle.octets.specs.Bytes.{is_nul}
use Rattle.octets.proofs.slices.NulTest.passes.Goals as goal

pub returns : goal.returns
unfolding is_nul
returns c = refl
