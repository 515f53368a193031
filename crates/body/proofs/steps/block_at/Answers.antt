use Rattle.body.proofs.StepsLaws.{finding}
use Rattle.body.proofs.steps.block_at.Goals as goal

pub after_data-requires : goal.after_data-requires
after_data-requires c = search finding
