use Rattle.sign.proofs.Answering.{readied}
use Rattle.sign.proofs.run.run_bare.Goals as goal

pub returns-in-Err : goal.returns-in-Err
returns-in-Err c = search readied

pub run_frame-requires : goal.run_frame-requires
run_frame-requires c = search readied

pub returns-in-Ok-Standard : goal.returns-in-Ok-Standard
returns-in-Ok-Standard c = search readied

pub returns-in-Ok-Printable : goal.returns-in-Ok-Printable
returns-in-Ok-Printable c = search readied
