-- A message put into a file, case by case.
use Prim.Native.Nat.{ℕ, ◌+◌, ◌-◌, ◌<◌, ◌≤◌}
use mathlib.Core.Path.{◌≡◌, ap, ◌∙◌}
use mathlib.Core.List.{List, [], ◌∷◌}
use native.Mathlib.Omega.{arith}
use borrow.Author.Rules.{rules}
use borrow.Author.Tests.{lt-ltb, le-ltb}
use lib.ListN.{length, take, drop}
use lib.Seq.{take_all}
use Rattle.std.specs.Prelude.{Option, Some, None, Result, Ok, Err}
use Rattle.octets.specs.Choice.{◌!◌}
use Rattle.octets.specs.Buffer.{zeros, splice}
use Rattle.buffers.proofs.Splices.{splice-append}
use Rattle.board.specs.Index.{look_up}
use Rattle.board.specs.declared.Content.{Content}
use Rattle.commands.specs.Commands.{holding, put_message, write_file}
use Rattle.commands.specs.InnerDoing.{Room, OfBoard, putting, writing, Puts}
use Rattle.effects.specs.declared.Refusal.{Refusal}
use Rattle.effects.specs.declared.Refusal.TheVariants.{Malformed, NoFile, TooLong}
use Rattle.commands.proofs.Boards.{found-on, of-within, of-inside}

-- the message, then zeros
pub hold-put : (m a b msg : List ℕ) (start size : ℕ) → Room m start size msg → a ≡ splice m start msg → b ≡ splice a (start + length msg) (zeros (size - length msg)) →
    b ≡ holding m start size msg
unfolding holding
hold-put m a b msg start size h p q =
    q ∙ ap (λ l. splice l (start + length msg) (zeros (size - length msg))) p ∙ splice-append m start msg (omega (arith, h.fits, h.inside)) (zeros (size - length msg))

-- f is what the index answers
module _ {p m : List ℕ} (h : OfBoard p m) (label kind : ℕ) (f : Option Content) (a : f ≡ look_up p m label kind) (msg : List ℕ) where
  pub put-none : f ≡ None → Puts p m (putting label kind msg) (Err NoFile) m
  unfolding putting put_message
  put-none e = record { on = λ b i. rw (← found-on label kind f a b i, e, ← i.memory) }

  module _ (x : Content) (e : f ≡ Some x) where
    pub put-long : x.size < length msg → Puts p m (putting label kind msg) (Err TooLong) m
    unfolding putting put_message
    put-long l = record { on = λ b i. rw (← found-on label kind f a b i, e, lt-ltb x.size (length msg) l, ← i.memory) }

    module _ (l : length msg ≤ x.size) where
      pub put-room : Room m x.start x.size msg
      put-room = record { fits = l; inside = of-inside h label kind f a x e }

      pub put-done : (m' : List ℕ) → m' ≡ holding m x.start x.size msg → Puts p m (putting label kind msg) (Ok tt) m'
      unfolding putting put_message
      put-done m' q = record { on = λ b i. rw (← found-on label kind f a b i, e, le-ltb x.size (length msg) l, q, ← i.memory) }

-- the label, and the message behind it
module _ (p m : List ℕ) (kind : ℕ) where
  pub write-none : (text : List ℕ) → length text < 1 → Puts p m (writing kind text) (Err Malformed) m
  unfolding writing write_file
  write-none [] l = record { on = λ b i. rw (← i.memory) }
  write-none (x ∷ text) l = absurd (omega arith)

  pub write-some : (text : List ℕ) → 1 ≤ length text → (r : Result (Unit {0}) Refusal) (m' : List ℕ) →
      Puts p m (putting (text ! 0) kind (take (length text - 1) (drop 1 text))) r m' →
      Puts p m (writing kind text) r m'
  unfolding writing write_file putting
  write-some [] l r m' x = absurd (omega arith)
  write-some (y ∷ text) l r m' x =
      record { on = λ b i. x.on b i ∙ rw (take_all (length (y ∷ text) - 1) text (omega arith)) }

pub ruleset puts = (hold-put, of-within, put-none, put-long, put-room, put-done, write-none, write-some, rules)
