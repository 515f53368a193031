use Rattle.buffers.proofs.DecimalLaws.{decimals}
use Rattle.buffers.proofs.decimal.put_decimal.Goals as goal

pub returns : goal.returns
returns c = search decimals
