use Rattle.configuration.proofs.Listing.{checking}
use Rattle.configuration.proofs.records.are_records.Goals as goal

pub returns-then-not-is_record : goal.returns-then-not-is_record
returns-then-not-is_record c = search checking

pub loop-i-preserved : goal.loop-i-preserved
loop-i-preserved c = search checking

pub returns : goal.returns
returns c = search checking
