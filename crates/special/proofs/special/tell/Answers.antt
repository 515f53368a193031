use Rattle.special.proofs.Telling.{telling}
use Rattle.special.proofs.special.tell.Goals as goal

pub tell_time-requires : goal.tell_time-requires
tell_time-requires c = search telling

pub tell_bytes-requires : goal.tell_bytes-requires
tell_bytes-requires c = search telling

pub tell_bytes-requires-in-39 : goal.tell_bytes-requires-in-39
tell_bytes-requires-in-39 c = search telling

pub tell_date-requires : goal.tell_date-requires
tell_date-requires c = search telling

pub tell_records-requires : goal.tell_records-requires
tell_records-requires c = search telling

pub tell_bytes-requires-in-42 : goal.tell_bytes-requires-in-42
tell_bytes-requires-in-42 c = search telling

pub overflow_cast-m : goal.overflow_cast-m
overflow_cast-m c = search telling

pub tell_pool-requires : goal.tell_pool-requires
tell_pool-requires c = search telling

pub returns-in-32 : goal.returns-in-32
returns-in-32 c = search telling

pub returns-in-33 : goal.returns-in-33
returns-in-33 c = search telling

pub returns-in-39 : goal.returns-in-39
returns-in-39 c = search telling

pub returns-in-59 : goal.returns-in-59
returns-in-59 c = search telling

pub returns-in-36 : goal.returns-in-36
returns-in-36 c = search telling

pub returns-in-42 : goal.returns-in-42
returns-in-42 c = search telling

pub returns-in_default : goal.returns-in_default
returns-in_default c = search telling
