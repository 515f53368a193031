use Rattle.configuration.proofs.Listing.{Checking}
use Rattle.configuration.proofs.records.are_records.Given as goal

abbrev pub invariant-loop-i : goal.invariant-loop-i
invariant-loop-i l = Checking l.records l.i
