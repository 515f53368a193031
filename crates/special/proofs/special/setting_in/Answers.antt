use Rattle.special.proofs.Settles.{labelled}
use Rattle.special.specs.Special.{set_by}
use Rattle.special.proofs.special.setting_in.Goals as goal

pub returns-in-32 : goal.returns-in-32
unfolding set_by
returns-in-32 c = search labelled

pub returns-in-33 : goal.returns-in-33
unfolding set_by
returns-in-33 c = search labelled

pub returns-in-39 : goal.returns-in-39
unfolding set_by
returns-in-39 c = search labelled

pub returns-in-59 : goal.returns-in-59
unfolding set_by
returns-in-59 c = search labelled

pub returns-in-55 : goal.returns-in-55
unfolding set_by
returns-in-55 c = search labelled

pub returns-in-84 : goal.returns-in-84
unfolding set_by
returns-in-84 c = search labelled

pub returns-in-52 : goal.returns-in-52
unfolding set_by
returns-in-52 c = search labelled

pub returns-in_default : goal.returns-in_default
returns-in_default c = search labelled
