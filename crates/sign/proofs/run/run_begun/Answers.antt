use Rattle.sign.proofs.Answering.{running}
use Rattle.sign.proofs.run.run_begun.Goals as goal

pub run_blocks-requires : goal.run_blocks-requires
run_blocks-requires c = search running
