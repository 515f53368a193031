use Rattle.writing.proofs.Results.{heads}
use Rattle.writing.proofs.blocks.put_headed.Goals as goal

pub put_heading-next-requires : goal.put_heading-next-requires
put_heading-next-requires c = search heads

pub put_blocks-requires : goal.put_blocks-requires
put_blocks-requires c = search heads

pub returns : goal.returns
returns c = search heads
