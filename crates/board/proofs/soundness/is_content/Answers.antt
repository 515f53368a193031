use Rattle.board.proofs.SoundnessLaws.{filling}
use Rattle.board.proofs.soundness.is_content.Goals as goal

pub slice_bounds-all_nul-count : goal.slice_bounds-all_nul-count
slice_bounds-all_nul-count c = search filling

pub slice_bounds-all_nul-start : goal.slice_bounds-all_nul-start
slice_bounds-all_nul-start c = search filling

pub returns : goal.returns
returns c = search filling
