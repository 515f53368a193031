-- A run has one outcome, and so have the making of a fresh board and the port driver's call; and what is computed of a run holds of whatever keeps its promise.
use Prim.Native.Nat.{ℕ}
use mathlib.Core.Path.{◌≡◌, sym, ap, ◌∙◌}
use mathlib.Core.List.{List}
use Rattle.board.specs.Board.{Board}
use Rattle.board.specs.declared.Settings.{Settings}
use Rattle.board.proofs.Unique.{unique}
use Rattle.sign.specs.Run.{Outcome, outcome, run}
use Rattle.sign.specs.Fresh.{Making, making, fresh}
use Rattle.sign.specs.InnerRunning.{made_as, answer_as}
use Rattle.sign.specs.Errors.{port_errors}
use Rattle.sign.specs.declared.Answer.{Answer}
use Rattle.sign.specs.declared.Driven.{Driven}
use Rattle.sign.specs.declared.Made.{Made}

-- the parts of one outcome
outcome-parts : {r r' : Answer} {m m' o o' : List ℕ} → outcome r m o ≡ outcome r' m' o' → (r ≡ r') × (m ≡ m') × (o ≡ o')
outcome-parts e =
    (λ i. answer_as (e i).number (e i).tally (e i).after.settings, ap (λ (x : Outcome). x.after.memory) e, ap (λ (x : Outcome). x.reply) e)

making-parts : {r r' : Made} {m m' : List ℕ} → making r m ≡ making r' m' → (r ≡ r') × (m ≡ m')
making-parts e = (λ i. made_as (e i).number (e i).made.settings, ap (λ (x : Making). x.made.memory) e)

module _ (b : Board) (o f : List ℕ) {r r' : Answer} {m m' a a' : List ℕ} (p : outcome r m a ≡ run b o f) where
  -- whatever keeps the promise of `run` on an input: one answer, one memory, one reply buffer
  pub run-unique : outcome r' m' a' ≡ run b o f → (r ≡ r') × (m ≡ m') × (a ≡ a')
  run-unique q = outcome-parts (p ∙ sym q)

  -- on an example's input it has the example's values
  pub run-promised : run b o f ≡ outcome r' m' a' → (r ≡ r') × (m ≡ m') × (a ≡ a')
  run-promised q = outcome-parts (p ∙ q)

module _ (t : ℕ) (m : List ℕ) {r r' : Made} {a a' : List ℕ} (p : making r a ≡ fresh t m) where
  -- whatever keeps the promise of `fresh`: one answer, one memory
  pub fresh-unique : making r' a' ≡ fresh t m → (r ≡ r') × (a ≡ a')
  fresh-unique q = making-parts (p ∙ sym q)

-- whatever keeps the promise of `port_errors`: one answer
pub driven-unique : (s : Settings) (bits : ℕ) (r r' : Driven) → r ≡ port_errors s bits → r' ≡ port_errors s bits → r ≡ r'
driven-unique s bits r r' p q = unique p q
