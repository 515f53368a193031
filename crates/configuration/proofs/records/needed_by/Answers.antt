use Rattle.configuration.proofs.Listing.{sizes}
use Rattle.configuration.proofs.records.needed_by.Goals as goal

pub overflow_add-result-else-size-eq0 : goal.overflow_add-result-else-size-eq0
overflow_add-result-else-size-eq0 c = search sizes

pub returns-then-size-eq0 : goal.returns-then-size-eq0
returns-then-size-eq0 c = search sizes

pub returns-else-size-eq0 : goal.returns-else-size-eq0
returns-else-size-eq0 c = search sizes
