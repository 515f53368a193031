use Rattle.writing.proofs.Results.{pairs}
use Rattle.writing.proofs.joining.put_joined.Goals as goal

pub put_headed-next-requires : goal.put_headed-next-requires
put_headed-next-requires c = search pairs

pub put_blocks-end-requires : goal.put_blocks-end-requires
put_blocks-end-requires c = search pairs

pub put_eot-requires : goal.put_eot-requires
put_eot-requires c = search pairs

pub returns : goal.returns
returns c = search pairs
