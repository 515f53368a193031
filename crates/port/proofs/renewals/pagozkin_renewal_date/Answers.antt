use Rattle.port.proofs.Telling.{renewing}
use Rattle.port.proofs.renewals.pagozkin_renewal_date.Goals as goal

pub renewal_date-requires : goal.renewal_date-requires
renewal_date-requires c = search renewing

pub returns : goal.returns
returns c = search renewing
