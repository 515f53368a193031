use Rattle.reading.proofs.Rooms.{translating}
use Rattle.reading.proofs.reading.translate.Goals as goal

pub returns-in_default : goal.returns-in_default
returns-in_default c = search translating

pub returns-then-length-gt-TRANSLATED : goal.returns-then-length-gt-TRANSLATED
returns-then-length-gt-TRANSLATED c = search translating

pub translate_into-requires-clause-s_in_bounds : goal.translate_into-requires-clause-s_in_bounds
translate_into-requires-clause-s_in_bounds c = search translating

pub returns : goal.returns
returns c = search translating
