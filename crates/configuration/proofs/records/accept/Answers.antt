use Rattle.configuration.proofs.Refusing.{refusing}
use Rattle.configuration.proofs.records.accept.Goals as goal

pub returns-then-not-is_empty-clause-number : goal.returns-then-not-is_empty-clause-number
returns-then-not-is_empty-clause-number c = search refusing

pub returns-then-not-labels_distinct-clause-number : goal.returns-then-not-labels_distinct-clause-number
returns-then-not-labels_distinct-clause-number c = search refusing

pub needed-requires : goal.needed-requires
needed-requires c = search refusing

pub returns-then-room-needed-clause-number : goal.returns-then-room-needed-clause-number
returns-then-room-needed-clause-number c = search refusing

pub returns-clause-number : goal.returns-clause-number
returns-clause-number c = search refusing
