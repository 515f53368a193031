use Rattle.special.proofs.Settles.{timing}
use Rattle.special.proofs.special.time_in.Goals as goal
use Rattle.special.proofs.special.time_in.Goals.{then-d-ne4-via-then-d-ne4, then-d-ne4-via-else-d-ne4+then-not-all_decimal}

pub returns-then-d-ne4 : goal.returns-then-d-ne4
returns-then-d-ne4 c =
    elim c.then-d-ne4.branch [
      | then-d-ne4-via-then-d-ne4 w ↦ search timing
      | then-d-ne4-via-else-d-ne4+then-not-all_decimal w ↦ search timing
    ]

pub returns-then-not-in_time : goal.returns-then-not-in_time
returns-then-not-in_time c = search timing

pub returns : goal.returns
returns c = search timing
