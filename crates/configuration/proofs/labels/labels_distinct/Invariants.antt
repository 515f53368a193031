use lib.ListN.{length}
use Rattle.configuration.proofs.LabelsLaws.{Parting}
use Rattle.configuration.proofs.labels.labels_distinct.Given as goal

abbrev pub invariant-loop-head : goal.invariant-loop-head
invariant-loop-head l = Parting l.records l.left

abbrev pub decreases-loop-head : goal.decreases-loop-head
decreases-loop-head l = length l.left
