use Rattle.buffers.proofs.DecimalLaws.{decimals}
use Rattle.buffers.proofs.decimal.decimal_at.Goals as goal

pub overflow_sub-result : goal.overflow_sub-result
overflow_sub-result c = search decimals

pub overflow_mul-result : goal.overflow_mul-result
overflow_mul-result c = search decimals

pub overflow_sub-result-2 : goal.overflow_sub-result-2
overflow_sub-result-2 c = search decimals

pub overflow_add-result-2 : goal.overflow_add-result-2
overflow_add-result-2 c = search decimals

pub returns : goal.returns
returns c = search decimals
