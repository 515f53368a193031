use Rattle.header.specs.Capitals.{header_capitals}
use Rattle.forms.specs.InnerNumbers.{form_number}
use Rattle.forms.proofs.FormsLaws.{Copying}
use Rattle.forms.proofs.forms.put_header.Given as goal

abbrev pub invariant-loop-i : goal.invariant-loop-i
invariant-loop-i l = Copying l.initial.out l.at (form_number l.form) (header_capitals l.h) l.out l.next l.i
