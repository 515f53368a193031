-- In whichever form: a frame and what re-forming makes of it run alike on every board and with every reply buffer.
use Prim.Native.Nat.{ℕ}
use mathlib.Core.Path.{◌≡◌, ap, ◌∙◌}
use mathlib.Core.Bool.{true}
use mathlib.Core.List.{List}
use Rattle.octets.specs.Choice.{is_byte, all}
use Rattle.reading.specs.Reading.{read}
use Rattle.reading.specs.Capitals.{in_capitals}
use Rattle.writing.specs.Output.{Output}
use Rattle.writing.specs.Reforming.{reform}
use Rattle.frame.specs.Results.{result_of}
use Rattle.frame.proofs.Frames.{capitals-twice}
use Rattle.frame.proofs.ReadBack.{reformed-back}
use Rattle.board.specs.Board.{Board}
use Rattle.sign.specs.Run.{run}
use Rattle.sign.proofs.Alike.{capitals-alike}

-- x is what re-forming the frame f, of bytes, in a form answered and left
pub forms-alike : (b : Board) (o f : List ℕ) (form : ℕ) (before : List ℕ) (x : Output) → all is_byte f ≡ true
    → x ≡ reform form f before → x.answer.number ≡ 0 → run b o (result_of x) ≡ run b o f
forms-alike b o f form before x a e z =
    capitals-alike b o (result_of x) f (ap in_capitals (reformed-back x form f before a e z) ∙ capitals-twice (read f))
