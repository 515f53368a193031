use mathlib.Core.Path.{◌≡◌, ◌∙◌}
use borrow.Author.Rules.{rules}
use Rattle.std.specs.List.{count_by}
use Rattle.forms.specs.InnerLengths.{is_escaped}
use Rattle.forms.proofs.LengthsLaws.{escapes-by}
use Rattle.forms.proofs.lengths.count_escapes.Goals as goal

pub returns : goal.returns
returns c = let counted : c.sum.result ≡ count_by is_escaped c.args.s.now = search rules in counted ∙ escapes-by c.args.s.now
