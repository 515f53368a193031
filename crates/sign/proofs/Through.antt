-- The serial error status register through a run: from the one before it, by the numbers of the blocks.
use Prim.Native.Nat.{ℕ}
use mathlib.Core.Path.{◌≡◌, refl, sym, ap, ◌∙◌}
use mathlib.Core.List.{List, [], ◌∷◌}
use mathlib.Core.Bool.{true, not, ◌&&◌}
use native.Mathlib.Omega.{arith}
use lib.ListN.{length}
use borrow.Author.Tests.{eqb-true, eqb-false, not-true}
use Rattle.octets.specs.Choice.{◌is◌, ◌<?◌}
use Rattle.octets.proofs.Tests.{by-test, choice, never, split}
use Rattle.header.specs.Addressing.{addressed, starts}
use Rattle.body.specs.Body.{Block}
use Rattle.reading.specs.Reading.{Reading, refused, frame, read}
use Rattle.register.specs.Register.{bit}
use Rattle.board.specs.Board.{Board}
use Rattle.board.specs.Soundness.{sound}
use Rattle.board.specs.declared.Settings.{Settings}
use Rattle.effects.specs.Reply.{reply_room}
use Rattle.effects.specs.Recording.{fault_noted}
use Rattle.effects.proofs.RecordingLaws.{fault-stays}
use Rattle.configuration.specs.Starting.{START-MEMORY}
use Rattle.commands.specs.Blocks.{run_block}
use Rattle.keeping.specs.Keeping.{clears}
use Rattle.keeping.proofs.Keeping.{block-keeps}
use Rattle.sign.specs.Run.{Outcome, untouched, onto, run_blocks, begun, run_frame, run}
use Rattle.sign.specs.Errors.{errors_behind, errors_through, clears_none}
use Rattle.sign.specs.Counts.{block_numbers}
use Rattle.sign.proofs.Beginning.{begun-keeps, tested}
use Rattle.sign.proofs.Steady.{run-untouched}

-- what a block leaves in the register, by its number
block-errors : (b : Board) (k : Block) → (run_block b k).after.settings.errors ≡ errors_behind b.settings.errors k (run_block b k).number
unfolding errors_behind fault_noted
block-errors b k =
    let f = block-keeps b k in
    let x = run_block b k in
    by-test (x.number is 0)
    (λ e. let z = eqb-true x.number 0 e in f.errors z ∙ rw z)
    (λ e. ap (λ (y : Board). y.settings.errors) (f.refused (eqb-false x.number 0 e)).0 ∙ rw e)

-- and blocks, behind any others
blocks-errors : (ks : List Block) (st : Outcome) →
    (run_blocks st ks).after.settings.errors ≡ errors_through st.after.settings.errors ks (block_numbers st.after ks)
unfolding run_blocks onto block_numbers errors_through
blocks-errors [] st = refl
blocks-errors (k ∷ ks) st =
    let x = run_block st.after k in
    blocks-errors ks (onto st x) ∙ ap (λ (r : ℕ). errors_through r ks (block_numbers x.after ks)) (block-errors st.after k)

-- a bit that is set stays where no block clears, whatever the numbers
errors-stay : (ks : List Block) → clears_none ks ≡ true → (ns : List ℕ) (r k : ℕ) → bit r k ≡ 1 → bit (errors_through r ks ns) k ≡ 1
unfolding errors_through errors_behind clears_none
errors-stay [] c ns r k h = h
errors-stay (b ∷ ks) c [] r k h = h
errors-stay (b ∷ ks) c (n ∷ ns) r k h =
    let p = split (not (clears b.command b.text)) c in
    errors-stay ks p.1 ns (errors_behind r b n) k
    (choice (λ (x : ℕ). bit x k ≡ 1) (n is 0 && clears b.command b.text)
    (λ e. never (sym (split (n is 0) e).1 ∙ not-true (clears b.command b.text) p.0)) (λ e. fault-stays r n k h))

-- a run whose number is 0 has gone through its blocks
abbrev Noted : Board → Reading → Outcome → Type 0
Noted b (refused n) x = Unit {0}
Noted b (frame h bs) x = x.number ≡ 0 → x.after.settings.errors ≡ errors_through b.settings.errors bs (block_numbers (begun b h) bs)

not-run : (b : Board) (r : Reading) (x : Outcome) → (x.number ≡ 0 → ⊥) → Noted b r x
not-run b (refused n) x z = tt
not-run b (frame h bs) x z = λ e. absurd (z e)

frame-noted : (b : Board) (o : List ℕ) (r : Reading) → Noted b r (run_frame b o r)
unfolding run_frame
frame-noted b o (refused n) = tt
frame-noted b o (frame h bs) =
    let x = begun b h in
    choice (Noted b (frame h bs)) (not (addressed b.settings.own b.settings.address h)) (λ a z. absurd (omega arith))
    (λ a. choice (Noted b (frame h bs)) (starts h && length b.memory <? START-MEMORY) (λ c z. absurd (omega arith))
    (λ c z. blocks-errors bs (untouched 0 x o)
    ∙ ap (λ (s : Settings). errors_through s.errors bs (block_numbers x bs)) (begun-keeps b h (tested h (length b.memory) c)).settings))

run-noted : (b : Board) (o f : List ℕ) → Noted b (read f) (run b o f)
unfolding run
run-noted b o f =
    choice (Noted b (read f)) (not (sound b)) (λ e. not-run b (read f) _ (λ z. omega arith))
    (λ e. choice (Noted b (read f)) (length o <? reply_room b.memory) (λ g. not-run b (read f) _ (λ z. omega arith))
    (λ g. frame-noted b o (read f)))

-- request 10: the register behind a run
module _ (b : Board) (o f h : List ℕ) (bs : List Block) (e : read f ≡ frame h bs) where
  pub run-register : (run b o f).number ≡ 0 → (run b o f).after.settings.errors ≡ errors_through b.settings.errors bs (block_numbers (begun b h) bs)
  run-register = rw e at (run-noted b o f)

  -- "a bit stays until cleared"
  pub run-bits : clears_none bs ≡ true → (k : ℕ) → bit b.settings.errors k ≡ 1 → bit (run b o f).after.settings.errors k ≡ 1
  run-bits c k g =
      by-test ((run b o f).number is 0)
      (λ z. rw (run-register (eqb-true _ 0 z)) (errors-stay bs c (block_numbers (begun b h) bs) b.settings.errors k g))
      (λ z. rw (run-untouched b o f (eqb-false _ 0 z)) g)
