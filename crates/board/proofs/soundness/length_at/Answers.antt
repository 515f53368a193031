use mathlib.Core.Path.{ap, ◌∙◌}
use mathlib.Core.Bool.{false}
use native.Mathlib.Omega.{arith}
use lib.ListN.{length}
use Rattle.board.specs.InnerNoted.{record_or_none}
use Rattle.board.proofs.SoundnessLaws.{file-long, filing}
use Rattle.board.proofs.soundness.length_at.Goals as goal

pub returns-in_err-head : goal.returns-in_err-head
returns-in_err-head c = search filing

pub returns-in_err-record_or_none : goal.returns-in_err-record_or_none
returns-in_err-record_or_none c = search filing

pub returns-in_err-content : goal.returns-in_err-content
returns-in_err-content c =
    let h = c.in_ok-head.ensures.cases in
    let k = c.in_err-content.ensures.cases in
    c.from_residual-in_err-content.ensures
    ∙ file-long c.args.rest.now (omega (arith, h.2)) c.record_or_none.result (c.record_or_none.ensures ∙ ap (record_or_none false) h.0)
    c.in_ok-record_or_none.field-0 c.in_ok-record_or_none.was (omega (arith, k, ap length h.1, c.from-size.ensures))

pub returns-then-is_content : goal.returns-then-is_content
returns-then-is_content c = search filing

pub returns-else-is_content : goal.returns-else-is_content
returns-else-is_content c = search filing
