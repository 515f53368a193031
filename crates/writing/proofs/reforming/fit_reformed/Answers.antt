use Rattle.writing.proofs.Reckonings.{reckoning}
use Rattle.writing.proofs.reforming.fit_reformed.Goals as goal

pub fit-requires : goal.fit-requires
fit-requires c = search reckoning

pub returns : goal.returns
returns c = search reckoning
