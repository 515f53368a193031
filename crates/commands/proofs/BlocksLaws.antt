-- The command by its byte, and the sum before it.
use Prim.Native.Nat.{ℕ}
use mathlib.Core.Path.{◌≡◌, refl, ap, ◌∙◌}
use mathlib.Core.Bool.{Bool, true, false, not}
use mathlib.Core.List.{List}
use borrow.Author.Rules.{rules}
use borrow.Author.Tests.{ne_eqb, not-true, not-false}
use Rattle.std.specs.Prelude.{Result, Ok, Err}
use Rattle.std.specs.Result.{result_and}
use Rattle.octets.specs.Choice.{◌is◌}
use Rattle.octets.specs.Bytes.{A, B, E, F, G, H}
use Rattle.octets.proofs.Tests.{by-test}
use Rattle.body.specs.Body.{block}
use Rattle.board.specs.Files.{TEXT, STRING}
use Rattle.board.specs.Board.{Board, board, with_memory}
use Rattle.board.specs.Soundness.{sound}
use Rattle.board.specs.declared.Settings.{Settings}
use Rattle.effects.specs.Effects.{Effect, refuse, change}
use Rattle.effects.specs.InnerLeaving.{number, done_as, done_by, Left, left_as, leaving}
use Rattle.effects.specs.declared.Changed.{Changed}
use Rattle.effects.specs.declared.Done.{Done}
use Rattle.effects.specs.declared.Refusal.{Refusal}
use Rattle.effects.specs.declared.Refusal.TheVariants.{WrongChecksum, Unknown}
use Rattle.effects.proofs.Outcomes.{left-quiet}
use Rattle.special.specs.Special.{write_special, read_special}
use Rattle.commands.specs.Blocks.{command, do_block}
use Rattle.commands.specs.InnerDoing.{is_special, OfBoard, writing, reading, commanding, filing, Puts, Files}

-- ---- any other block; m' and out' are what is left

module _ (p m : List ℕ) (code : ℕ) (text out : List ℕ) where
  -- by an effect on each board
  as-answered : (e : Board → Effect) → ((b : Board) → e b ≡ commanding code text b) → (r : Result ℕ Refusal) (m' out' : List ℕ) →
      Files p m out e r m' out' → Files p m out (commanding code text) r m' out'
  as-answered e q r m' out' x = record { on = λ b i. x.on b i ∙ ap (leaving out) (q b) }

  -- a write replies nothing
  as-put : (e : Board → Effect) → ((b : Board) → e b ≡ commanding code text b) → (r : Result (Unit {0}) Refusal) (m' : List ℕ) →
      Puts p m e r m' → Files p m out (commanding code text) (result_and r (Ok 0)) m' out
  as-put e q (Ok x) m' y = record { on = λ b i. left-quiet out _ 0 (with_memory b m') (y.on b i ∙ q b) }
  as-put e q (Err x) m' y = record { on = λ b i. left-quiet out _ (number x) (with_memory b m') (y.on b i ∙ q b) }

  as-refused : (x : Refusal) → ((b : Board) → refuse (number x) b ≡ commanding code text b) →
      Files p m out (commanding code text) (Err x) m out
  as-refused x q = record { on = λ b i. rw (← i.memory) (left-quiet out _ (number x) b (q b)) }

  pub write-text : code ≡ A → (r : Result (Unit {0}) Refusal) (m' : List ℕ) → Puts p m (writing TEXT text) r m' →
      Files p m out (commanding code text) (result_and r (Ok 0)) m' out
  unfolding commanding command writing
  write-text e = as-put (writing TEXT text) (λ b. rw e)

  pub write-string : code ≡ G → (r : Result (Unit {0}) Refusal) (m' : List ℕ) → Puts p m (writing STRING text) r m' →
      Files p m out (commanding code text) (result_and r (Ok 0)) m' out
  unfolding commanding command writing
  write-string e = as-put (writing STRING text) (λ b. rw e)

  pub read-text : code ≡ B → (r : Result ℕ Refusal) (out' : List ℕ) → Files p m out (reading TEXT A text) r m out' →
      Files p m out (commanding code text) r m out'
  unfolding commanding command reading
  read-text e r out' = as-answered (reading TEXT A text) (λ b. rw e) r m out'

  pub read-string : code ≡ H → (r : Result ℕ Refusal) (out' : List ℕ) → Files p m out (reading STRING G text) r m out' →
      Files p m out (commanding code text) r m out'
  unfolding commanding command reading
  read-string e r out' = as-answered (reading STRING G text) (λ b. rw e) r m out'

  pub unknown : (code ≡ A → ⊥) → (code ≡ G → ⊥) → (code ≡ B → ⊥) → (code ≡ H → ⊥) →
      Files p m out (commanding code text) (Err Unknown) m out
  unfolding commanding command
  unknown a g b h =
      as-refused Unknown
      (λ x.
      rw (ne_eqb code A a, ne_eqb code G g, ne_eqb code B b, ne_eqb code H h)
      (by-test (code is E) (λ e. simp e) (λ e. by-test (code is F) (λ f. simp (e, f)) (λ f. simp (e, f)))))

-- with its sum
module _ (p m : List ℕ) (code : ℕ) (text out : List ℕ) (right : Bool) where
  pub file-wrong : not right ≡ true → Files p m out (filing (block code text right)) (Err WrongChecksum) m out
  unfolding filing is_special do_block
  file-wrong w = record { on = λ b i. rw (← i.memory) (left-quiet out _ 20 b (rw (not-true right w))) }

  pub file-right : not right ≡ false → (r : Result ℕ Refusal) (m' out' : List ℕ) → Files p m out (commanding code text) r m' out' →
      Files p m out (filing (block code text right)) r m' out'
  unfolding filing commanding is_special do_block
  file-right w r m' out' x = record { on = λ b i. x.on b i ∙ ap (leaving out) (rw (not-false right w)) }

pub ruleset choosing = (write-text, write-string, read-text, read-string, unknown, file-wrong, file-right, rules)

-- ---- a block; s' is what it leaves of the settings

module _ (s : Settings) (m : List ℕ) (code : ℕ) (text out : List ℕ) (right : Bool) where
  abbrev b : Board
  b = board s m

  pub sum-wrong : not right ≡ true → (r : Done) → r ≡ done_by (Err WrongChecksum) → left_as r s m out ≡ leaving out (do_block b (block code text right))
  unfolding do_block
  sum-wrong w r e = rw e (left-quiet out _ 20 b (rw (not-true right w)))

  pub indexed : sound b ≡ true → OfBoard s.places m
  indexed h = record { some = b; indexed = record { index = refl; memory = refl; sound = h } }

  module _ (w : not right ≡ false) where
    by-command : {x : Left} → x ≡ leaving out (command b code text) → x ≡ leaving out (do_block b (block code text right))
    unfolding do_block
    by-command e = e ∙ rw (not-false right w)

    pub set-special : code ≡ E → (c : Changed) (m' : List ℕ) → change (board s m') c ≡ write_special b text →
        left_as (done_as c.number 0) c.settings m' out ≡ leaving out (do_block b (block code text right))
    unfolding command
    set-special e c m' q = by-command (left-quiet out _ c.number (board c.settings m') (q ∙ rw e))

    pub get-special : code ≡ F → (x : Result ℕ Refusal) (s' : Settings) (out' : List ℕ) → left_as (done_by x) s' m out' ≡ leaving out (read_special b text) →
        (r : Done) → r ≡ done_by x → left_as r s' m out' ≡ leaving out (do_block b (block code text right))
    unfolding command
    get-special e x s' out' q r y =
        let z : read_special b text ≡ command b code text = rw e in
        let v : left_as r s' m out' ≡ leaving out (read_special b text) = rw y q in
        by-command (v ∙ ap (leaving out) z)

    pub filed : (code ≡ E → ⊥) → (code ≡ F → ⊥) → sound b ≡ true → (x : Result ℕ Refusal) (m' out' : List ℕ) →
        Files s.places m out (filing (block code text right)) x m' out' →
        (r : Done) → r ≡ done_by x → left_as r s m' out' ≡ leaving out (do_block b (block code text right))
    unfolding filing is_special
    filed e f h x m' out' q r y =
        let z : filing (block code text right) b ≡ do_block b (block code text right) = rw (not-false right w, ne_eqb code E e, ne_eqb code F f) in
        let v : left_as r s m' out' ≡ leaving out (filing (block code text right) b) =
        rw y (q.on b (record { index = refl; memory = refl; sound = h })) in
        v ∙ ap (leaving out) z

pub ruleset doing = (sum-wrong, indexed, set-special, get-special, filed, rules)
