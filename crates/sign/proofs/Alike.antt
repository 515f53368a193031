-- Frames that read alike run alike, and so do frames whose headers differ only in small letters.
use Prim.Native.Nat.{ℕ}
use mathlib.Core.Path.{◌≡◌, refl, ap}
use mathlib.Core.List.{List}
use Rattle.reading.specs.Reading.{Reading, refused, frame, read}
use Rattle.reading.specs.Capitals.{in_capitals}
use Rattle.frame.proofs.Frames.{addressed-alike, starts-alike}
use Rattle.board.specs.Board.{Board}
use Rattle.sign.specs.Run.{begun, run_frame, run}

-- what was read and the same with its header in capitals: a board is addressed, and started, alike by both
pub run-capitals : (b : Board) (o : List ℕ) (r : Reading) → run_frame b o (in_capitals r) ≡ run_frame b o r
unfolding run_frame begun in_capitals
run-capitals b o (refused n) = refl
run-capitals b o (frame h bs) = rw (addressed-alike h b.settings.own b.settings.address, starts-alike h)

module _ (b : Board) (o f g : List ℕ) where
  -- two frames that read as the same, their headers in capitals, do the same, on any board and with any reply buffer
  pub capitals-alike : in_capitals (read f) ≡ in_capitals (read g) → run b o f ≡ run b o g
  unfolding run
  capitals-alike e = rw (← run-capitals b o (read f), e, run-capitals b o (read g))

  -- so do two that read as the same
  pub reads-alike : read f ≡ read g → run b o f ≡ run b o g
  reads-alike e = capitals-alike (ap in_capitals e)
