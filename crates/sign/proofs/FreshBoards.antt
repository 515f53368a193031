-- A fresh board is sound, and so its settings are true of its memory.
use Prim.Native.Nat.{ℕ}
use mathlib.Core.Path.{◌≡◌, refl}
use mathlib.Core.List.{List, []}
use mathlib.Core.Bool.{true, not}
use native.Mathlib.Omega.{arith}
use lib.ListN.{length}
use borrow.Author.Tests.{not-false}
use Rattle.octets.specs.Buffer.{zeros}
use Rattle.octets.proofs.Tests.{choice}
use Rattle.octets.proofs.Buffers.{length-zeros}
use Rattle.header.specs.Addressing.{is_own_type}
use Rattle.temperature.specs.Offset.{is_offset}
use Rattle.register.specs.Register.{is_register}
use Rattle.board.specs.Settings.{in_range}
use Rattle.board.specs.Files.{files_of, used, unused, labels, distinct}
use Rattle.board.specs.Index.{is_index, entered}
use Rattle.board.specs.Board.{board, files_on}
use Rattle.board.specs.Soundness.{holds_files, is_memory, sound}
use Rattle.board.proofs.Ranges.{first-date}
use Rattle.board.proofs.Contents.{zeros-nul}
use Rattle.board.proofs.Inside.{sound-unused, sound-index}
use Rattle.board.proofs.Indexing.{index-true}
use Rattle.board.proofs.SoundParts.{whole, kept-true, sound-whole}
use Rattle.sign.specs.Fresh.{Making, fresh_settings, fresh}

abbrev SoundIfMade : Making → Type 0
SoundIfMade x = x.number ≡ 0 → sound x.made ≡ true

-- a fresh board that was made is sound
pub fresh-sound : (t : ℕ) (m : List ℕ) → (fresh t m).number ≡ 0 → sound (fresh t m).made ≡ true
unfolding fresh in_range is_offset is_register holds_files labels files_of distinct used unused entered
fresh-sound t m =
    choice SoundIfMade (not (is_own_type t)) (λ e z. absurd (omega arith)) (λ e.
    choice SoundIfMade (not (is_memory (length m))) (λ g z. absurd (omega arith)) (λ g z.
    let b = board (fresh_settings t (length m)) (zeros (length m)) in
    let l = length-zeros (length m) in
    sound-whole b
    (record {
      ranged = rw (first-date, not-false (is_own_type t) e);
      filed =
          whole 0 (zeros (length m))
          (record { long = rw l (not-false (is_memory (length m)) g); few = refl; held = zeros-nul (length m) });
      kept = kept-true b (record { unused = omega (arith, l); index = index-true [] tt refl });
    })))

module _ (t : ℕ) (m : List ℕ) (e : (fresh t m).number ≡ 0) where
  -- request 3, of the unused amount: "keep it true through fresh boards"
  pub fresh-unused : (fresh t m).made.settings.unused ≡ unused (fresh t m).made.settings.files (fresh t m).made.memory
  fresh-unused = sound-unused (fresh t m).made (fresh-sound t m e)

  -- request 7, of the index
  pub fresh-index : is_index (fresh t m).made.settings.places (files_on (fresh t m).made) ≡ true
  fresh-index = sound-index (fresh t m).made (fresh-sound t m e)
