use Rattle.writing.proofs.BlocksLaws.{placing}
use Rattle.writing.proofs.blocks.put_blocks.Goals as goal

pub loop-init : goal.loop-init
loop-init c = search placing

pub take_at-block-requires : goal.take_at-block-requires
take_at-block-requires c = search placing

pub overflow_add-i : goal.overflow_add-i
overflow_add-i c = search placing

pub slice_bounds-put_piece-count : goal.slice_bounds-put_piece-count
slice_bounds-put_piece-count c = search placing

pub slice_bounds-put_piece-start : goal.slice_bounds-put_piece-start
slice_bounds-put_piece-start c = search placing

pub slice_bounds-put_piece-end : goal.slice_bounds-put_piece-end
slice_bounds-put_piece-end c = search placing

pub put_piece-next-requires-clause-takes : goal.put_piece-next-requires-clause-takes
put_piece-next-requires-clause-takes c = search placing

pub put_piece-next-requires-clause-sum_value : goal.put_piece-next-requires-clause-sum_value
put_piece-next-requires-clause-sum_value c = search placing

pub loop-preserved : goal.loop-preserved
loop-preserved c = search placing

pub returns : goal.returns
returns c = search placing
