use Rattle.std.proofs.Common.{◌∙◌, rules, tests}
use Rattle.std.proofs.lemmas.Iterator.{YieldsList-from_slice}
use Rattle.std.proofs.lemmas.Iterator.Search.{all_from_yields_List}
use Rattle.octets.specs.Decimal.{is_decimal}
use Rattle.octets.proofs.Lists.{list-all}
use Rattle.buffers.proofs.decimal.all_decimal.Goals as goal

pub returns : goal.returns
unfolding is_decimal
returns c =
    all_from_yields_List is_decimal _ _ c.all.result c.all.ensures.ran (YieldsList-from_slice c.args.s.now cc) (λ x b q k. search (rules, tests))
    ∙ list-all is_decimal c.args.s.now
