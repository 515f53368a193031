use Rattle.std.proofs.Common.{ℕ, ◌*◌, Bool, drop, refl, ◌∙◌, rules}
use Rattle.std.proofs.lemmas.Iterator.{YieldsList-from_range}
use Rattle.std.proofs.lemmas.Iterator.Search.{any_from_yields_List}
use Rattle.header.specs.Addressing.{pair_fits}
use Rattle.header.proofs.Walks.{any_of}
use Rattle.header.proofs.addressing.addressed.Goals as goal

pub returns : goal.returns
returns c =
    let p : ℕ → Bool = λ i. pair_fits c.args.own c.args.address (drop (4 * i) c.args.h.now) in
    any_from_yields_List p _ _ _ c.any.ensures.ran (YieldsList-from_range 0 16 16 (search rules) refl) (λ x b q k. search rules)
    ∙ any_of c.args.own c.args.address c.args.h.now
