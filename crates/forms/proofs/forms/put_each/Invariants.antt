use Rattle.forms.specs.InnerNumbers.{form_number}
use Rattle.forms.proofs.FormsLaws.{Copying}
use Rattle.forms.proofs.forms.put_each.Given as goal

abbrev pub invariant-loop-b : goal.invariant-loop-b
invariant-loop-b l = Copying l.initial.out l.at (form_number l.form) l.s l.out l.next l.b-index
