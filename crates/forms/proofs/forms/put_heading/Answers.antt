use Rattle.forms.proofs.FormsLaws.{headings}
use Rattle.forms.proofs.forms.put_heading.Goals as goal

pub put_nuls-a-requires : goal.put_nuls-a-requires
put_nuls-a-requires c = search headings

pub put_one-b-requires : goal.put_one-b-requires
put_one-b-requires c = search headings

pub put_header-requires : goal.put_header-requires
put_header-requires c = search headings

pub returns : goal.returns
returns c = search headings
