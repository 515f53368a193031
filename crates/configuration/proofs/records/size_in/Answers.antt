use Rattle.configuration.proofs.Listing.{sizes}
use Rattle.configuration.proofs.records.size_in.Goals as goal

pub returns-then-size-eq0 : goal.returns-then-size-eq0
returns-then-size-eq0 c = search sizes

pub returns-else-size-eq0 : goal.returns-else-size-eq0
returns-else-size-eq0 c = search sizes
