use Rattle.rows.proofs.RowsLaws.{draw-start, drawing}
use Rattle.rows.proofs.rows.draw.Goals.{in-10, in-13, in_default, in_default-2}
use Rattle.rows.proofs.rows.draw.Goals as goal

pub loop-b-init : goal.loop-b-init
loop-b-init c = draw-start _ _ _ _ _ c.requires (c.fill.ensures.after (λ y e. e))

pub loop-b-preserved : goal.loop-b-preserved
loop-b-preserved c =
    elim c.match-b.branch [
      | in-10 w ↦ rw (w.picture-is, w.left-is, w.room-is, w.at-is) (search drawing)
      | in-13 w ↦ rw (w.picture-is, w.left-is, w.room-is, w.at-is) (search drawing)
      | in_default w ↦ rw (w.picture-is, w.left-is, w.room-is, w.at-is) (search drawing)
      | in_default-2 w ↦ rw (w.picture-is, w.left-is, w.room-is, w.at-is) (search drawing)
    ]
