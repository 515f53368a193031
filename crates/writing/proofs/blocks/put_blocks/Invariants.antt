use Rattle.forms.specs.InnerNumbers.{form_number}
use Rattle.writing.proofs.BlocksLaws.{Placing}
use Rattle.writing.proofs.blocks.put_blocks.Given as goal

abbrev pub invariant-loop : goal.invariant-loop
invariant-loop l = Placing l.initial.out l.place (form_number l.form) l.first l.source l.out l.at l.counter l.begun l.next
