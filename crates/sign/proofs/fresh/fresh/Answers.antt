use Rattle.sign.proofs.FreshLaws.{fresh-boards}
use Rattle.sign.proofs.fresh.fresh.Goals as goal

pub returns-then-not-is_own_type : goal.returns-then-not-is_own_type
returns-then-not-is_own_type c = search fresh-boards

pub returns-then-not-is_memory : goal.returns-then-not-is_memory
returns-then-not-is_memory c = search fresh-boards

pub returns : goal.returns
returns c = search fresh-boards
