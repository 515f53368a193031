use Rattle.configuration.proofs.ConfigurationLaws.{listed}
use Rattle.configuration.proofs.configuration.configure.Goals as goal

pub returns-then-n-gt-LIST : goal.returns-then-n-gt-LIST
returns-then-n-gt-LIST c = search listed

pub returns : goal.returns
returns c = search listed
