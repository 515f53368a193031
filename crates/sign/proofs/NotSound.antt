-- Refused with 1, whatever else the board is, and whatever the frame: one law for each thing that a sound board has.
use mathlib.Core.Path.{◌≡◌, sym, ◌∙◌}
use mathlib.Core.List.{List}
use mathlib.Core.Bool.{true, false}
use Prim.Native.Nat.{ℕ}
use lib.ListN.{length}
use Rattle.octets.proofs.Tests.{by-test, never}
use Rattle.temperature.specs.Offset.{is_offset}
use Rattle.register.specs.Register.{is_register}
use Rattle.board.specs.Settings.{with_files}
use Rattle.board.specs.Files.{unused, labels, distinct}
use Rattle.board.specs.Index.{ENTRIES, is_index}
use Rattle.board.specs.Board.{Board, with_settings, files_on}
use Rattle.board.specs.Soundness.{sound}
use Rattle.board.proofs.Ranges.{range}
use Rattle.board.proofs.Inside.{sound-ranged, sound-unused, sound-index, sound-distinct}
use Rattle.board.proofs.Indexing.{index-one}
use Rattle.sign.specs.Run.{untouched, run}
use Rattle.sign.proofs.RunLaws.{run-unsound}

-- request 9: a sound board's offset is -9 to 9
pub sound-offset : (b : Board) → sound b ≡ true → is_offset b.settings.offset ≡ true
sound-offset b e = (range b.settings (sound-ranged b e)).offset

-- request 10: its register has its fixed bits
pub sound-errors : (b : Board) → sound b ≡ true → is_register b.settings.errors ≡ true
sound-errors b e = (range b.settings (sound-ranged b e)).errors

-- where the board cannot be sound
run-not : (b : Board) (o f : List ℕ) → (sound b ≡ true → ⊥) → run b o f ≡ untouched 1 b o
run-not b o f n = by-test (sound b) (λ e. absurd (n e)) (run-unsound b o f)

module _ (b : Board) (o f : List ℕ) where
  -- request 3, "1 when the stored amount is wrong"
  pub run-wrong : (b.settings.unused ≡ unused b.settings.files b.memory → ⊥) → run b o f ≡ untouched 1 b o
  run-wrong n = run-not b o f (λ e. n (sound-unused b e))

  -- request 7, "1 when it is wrong": an index that is not true
  pub run-wrong-index : is_index b.settings.places (files_on b) ≡ false → run b o f ≡ untouched 1 b o
  run-wrong-index n = run-not b o f (λ e. never (sym (sound-index b e) ∙ n))

  -- two files of one label, whatever the index
  pub run-twice : distinct (labels (files_on b)) ≡ false → run b o f ≡ untouched 1 b o
  run-twice n = run-not b o f (λ e. never (sym (sound-distinct b e) ∙ n))

  -- request 9, "1 for an offset outside -9 to 9"
  pub run-wrong-offset : is_offset b.settings.offset ≡ false → run b o f ≡ untouched 1 b o
  run-wrong-offset n = run-not b o f (λ e. never (sym (sound-offset b e) ∙ n))

  -- request 10, "1 for a register whose fixed bits are not as the table has them"
  pub run-wrong-errors : is_register b.settings.errors ≡ false → run b o f ≡ untouched 1 b o
  run-wrong-errors n = run-not b o f (λ e. never (sym (sound-errors b e) ∙ n))

-- a board with another index
abbrev pub indexed_by : Board → List ℕ → Board
indexed_by b p = with_settings b (with_files b.settings b.settings.files b.settings.unused p)

-- of the boards that differ in nothing but the index, all but the sound one
pub run-other-index : (b : Board) (o f : List ℕ) → sound b ≡ true → length b.settings.places ≡ ENTRIES →
    (p : List ℕ) → length p ≡ ENTRIES → (p ≡ b.settings.places → ⊥) → run (indexed_by b p) o f ≡ untouched 1 (indexed_by b p) o
run-other-index b o f e l p k n =
    run-not (indexed_by b p) o f
    (λ g. n (index-one p b.settings.places (files_on b) k l (sound-index (indexed_by b p) g) (sound-index b e)))
