use Rattle.octets.specs.Bytes.{is_plain}
use Rattle.forms.specs.InnerLengths.{is_escaped}
use Rattle.forms.proofs.lengths.is_escaped.Goals as goal

pub returns : goal.returns
unfolding is_escaped is_plain
returns c = rw c.is_itself.ensures
