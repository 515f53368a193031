use borrow.Author.Rules.{rules}
use Rattle.octets.proofs.SlicesLaws.{eq-same}
use Rattle.octets.proofs.slices.same.Goals as goal

pub returns : goal.returns
returns c = search (eq-same, rules)
