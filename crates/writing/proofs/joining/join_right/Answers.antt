use Rattle.writing.proofs.JoiningLaws.{joining}
use Rattle.writing.proofs.joining.join_right.Goals as goal

pub returns-then-not-is_common : goal.returns-then-not-is_common
returns-then-not-is_common c = search joining

pub returns-then-alone : goal.returns-then-alone
returns-then-alone c = search joining

pub returns-then-read : goal.returns-then-read
returns-then-read c = search joining

pub returns : goal.returns
returns c = search joining
