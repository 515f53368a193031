use Rattle.octets.proofs.SlicesLaws.{fronts}
use Rattle.octets.proofs.slices.run_end.Goals as goal

pub overflow_add-result : goal.overflow_add-result
overflow_add-result g c = search fronts

pub returns-then-s-i : goal.returns-then-s-i
returns-then-s-i g c = search fronts
