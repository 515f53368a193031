use Rattle.forms.proofs.FormsLaws.{bytes}
use Rattle.forms.proofs.forms.put_one.Goals as goal

pub put_byte-requires : goal.put_byte-requires
put_byte-requires c = search bytes

pub put_escape-requires : goal.put_escape-requires
put_escape-requires c = search bytes

pub put_byte-requires-in_default : goal.put_byte-requires-in_default
put_byte-requires-in_default c = search bytes

pub returns-then-is_itself : goal.returns-then-is_itself
returns-then-is_itself c = search bytes

pub returns-else-is_itself : goal.returns-else-is_itself
returns-else-is_itself c = search bytes

pub returns-in_default : goal.returns-in_default
returns-in_default c = search bytes
