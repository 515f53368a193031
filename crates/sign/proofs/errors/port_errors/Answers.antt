use Rattle.sign.specs.Errors.{port_errors}
use Rattle.sign.proofs.errors.port_errors.Goals as goal
use borrow.Author.Rules.{rules}

pub returns : goal.returns
unfolding port_errors
returns c = search rules
