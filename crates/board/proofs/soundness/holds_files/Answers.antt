use Rattle.board.proofs.SoundnessLaws.{holding}
use Rattle.board.proofs.soundness.holds_files.Goals as goal

pub slice_bounds-length_at-count : goal.slice_bounds-length_at-count
slice_bounds-length_at-count c = search holding

pub slice_bounds-length_at-start : goal.slice_bounds-length_at-start
slice_bounds-length_at-start c = search holding

pub returns-in_default : goal.returns-in_default
returns-in_default c = search holding

pub bounds-m-at : goal.bounds-m-at
bounds-m-at c = search holding

pub returns-then-not-is_entered : goal.returns-then-not-is_entered
returns-then-not-is_entered c = search holding

pub overflow_add-at : goal.overflow_add-at
overflow_add-at c = search holding

pub overflow_sub-behind : goal.overflow_sub-behind
overflow_sub-behind c = search holding

pub slice_bounds-all_nul-count : goal.slice_bounds-all_nul-count
slice_bounds-all_nul-count c = search holding

pub slice_bounds-all_nul-start : goal.slice_bounds-all_nul-start
slice_bounds-all_nul-start c = search holding

pub returns-then-behind-from : goal.returns-then-behind-from
returns-then-behind-from c = search holding

pub returns-else-behind-from : goal.returns-else-behind-from
returns-else-behind-from c = search holding

pub loop-i-preserved : goal.loop-i-preserved
loop-i-preserved c = search holding
