use Rattle.writing.proofs.Reckonings.{pairing}
use Rattle.writing.proofs.joining.fit_both.Goals as goal

pub overflow_add-escapes : goal.overflow_add-escapes
overflow_add-escapes c = search pairing

pub overflow_add-count : goal.overflow_add-count
overflow_add-count c = search pairing

pub overflow_add-bytes : goal.overflow_add-bytes
overflow_add-bytes c = search pairing

pub fit-requires : goal.fit-requires
fit-requires c = search pairing

pub returns : goal.returns
returns c = search pairing
