use Rattle.forms.proofs.FormsLaws.{piecing}
use Rattle.forms.proofs.forms.put_piece.Goals as goal

pub put_parting-a-requires : goal.put_parting-a-requires
put_parting-a-requires c = search piecing

pub put_opened-b-requires : goal.put_opened-b-requires
put_opened-b-requires c = search piecing

pub put_ending-requires : goal.put_ending-requires
put_ending-requires c = search piecing

pub returns : goal.returns
returns c = search piecing
