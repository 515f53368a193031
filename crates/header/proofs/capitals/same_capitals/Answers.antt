use Rattle.std.proofs.Common.{ℕ, Bool, length, ◌∙◌, rules}
use Rattle.octets.specs.Choice.{◌is◌, ◌!◌}
use Rattle.std.proofs.lemmas.Iterator.{YieldsList-from_range}
use Rattle.std.proofs.lemmas.Iterator.Search.{all_from_yields_List}
use Rattle.header.specs.Capitals.{header_capitals}
use Rattle.header.proofs.CapitalsLaws.{caps-differ, caps-all}
use Rattle.header.proofs.capitals.same_capitals.Goals as goal

pub returns-then-h-g : goal.returns-then-h-g
returns-then-h-g c =
    let n = length c.args.h.now in
    let p : ℕ → Bool = λ i. header_capitals c.args.h.now ! i is header_capitals c.args.g.now ! i in
    all_from_yields_List p _ _ _ c.all.ensures.ran (YieldsList-from_range 0 n n (search rules) (search rules)) (λ x b q k. search rules)
    ∙ caps-all c.args.h.now c.args.g.now c.if-h-g.true

pub returns-else-h-g : goal.returns-else-h-g
returns-else-h-g c = search (rules, caps-differ)
