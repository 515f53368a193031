-- The board before the first block of a frame: as it was handed in, or with the files of a first start.
use Prim.Native.Nat.{ℕ, ◌≤◌}
use mathlib.Core.Path.{◌≡◌, refl}
use mathlib.Core.Bool.{true, false, ◌&&◌}
use mathlib.Core.List.{List}
use lib.ListN.{length}
use borrow.Author.Tests.{ltb-false}
use Rattle.octets.specs.Choice.{◌<?◌}
use Rattle.octets.proofs.Tests.{choice}
use Rattle.header.specs.Addressing.{starts}
use Rattle.board.specs.Settings.{with_files}
use Rattle.board.specs.Board.{Board}
use Rattle.board.specs.Soundness.{sound}
use Rattle.configuration.specs.Configuration.{replaced}
use Rattle.configuration.specs.Starting.{START-MEMORY, started}
use Rattle.configuration.proofs.StartingLaws.{started-length, started-sound}
use Rattle.sign.specs.Run.{begun}

-- what stays: every setting but the number of files, the unused amount and the index; memory's length; a sound board is sound
pub record Begun (b x : Board) : Type 0 where
  pub settings : x.settings ≡ with_files b.settings x.settings.files x.settings.unused x.settings.places
  pub memory : length x.memory ≡ length b.memory
  pub sound : sound b ≡ true → sound x ≡ true

-- where memory has room for its files
pub begun-keeps : (b : Board) (h : List ℕ) → (starts h ≡ true → START-MEMORY ≤ length b.memory) → Begun b (begun b h)
unfolding begun started replaced
begun-keeps b h l =
    choice (Begun b) (starts h) (λ s. record { settings = refl; memory = started-length b (l s); sound = started-sound b (l s) })
    (λ s. record { settings = refl; memory = refl; sound = λ g. g })

-- as a run has tested it
pub tested : (h : List ℕ) (n : ℕ) → (starts h && n <? START-MEMORY) ≡ false → starts h ≡ true → START-MEMORY ≤ n
tested h n e s = ltb-false n START-MEMORY (rw s at e)
