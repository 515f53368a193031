use Rattle.special.proofs.Settles.{dating}
use Rattle.special.proofs.special.date_in.Goals as goal
use Rattle.special.proofs.special.date_in.Goals.{then-d-ne6-via-then-d-ne6, then-d-ne6-via-else-d-ne6+then-not-all_decimal}

pub returns-then-d-ne6 : goal.returns-then-d-ne6
returns-then-d-ne6 c =
    elim c.then-d-ne6.branch [
      | then-d-ne6-via-then-d-ne6 w ↦ search dating
      | then-d-ne6-via-else-d-ne6+then-not-all_decimal w ↦ search dating
    ]

pub returns-then-not-in_date : goal.returns-then-not-in_date
returns-then-not-in_date c = search dating

pub returns : goal.returns
returns c = search dating
