use Rattle.sign.proofs.Going.{one_more}
use Rattle.sign.proofs.Answer.run_block.Goals as goal

pub returns : goal.returns
returns c = search one_more
