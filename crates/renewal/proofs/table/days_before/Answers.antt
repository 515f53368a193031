-- each entry is the one before plus that month's length: computed over the whole table
use Rattle.dates.specs.Calendar.{february, month_length}
use Rattle.renewal.specs.Counting.{length_of}
use Rattle.renewal.proofs.TableLaws.{entries}
use Rattle.renewal.proofs.table.days_before.Goals as goal

pub returns : goal.returns
unfolding length_of month_length february
returns c = search entries
