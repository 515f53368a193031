use borrow.Author.Rules.{rules}
use Rattle.configuration.proofs.LabelsLaws.{part-twice, part-on, parting}
use Rattle.configuration.proofs.labels.labels_distinct.Goals as goal

pub returns-then-label_among : goal.returns-then-label_among
returns-then-label_among c =
    part-twice c.loop-head.invariant c.in-Some.head.now c.in-Some.behind.now (search rules) c.label_among.result c.label_among.ensures (search rules)

pub loop-head-preserved : goal.loop-head-preserved
loop-head-preserved c =
    part-on c.loop-head.invariant c.in-Some.head.now c.in-Some.behind.now (search rules) c.label_among.result c.label_among.ensures (search rules)

pub returns : goal.returns
returns c = search parting
