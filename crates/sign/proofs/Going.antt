-- What holds while the blocks of a body are run one after another, and its steps.
use Prim.Native.Nat.{ℕ, ◌+◌, ◌-◌, ◌<◌, ◌≤◌}
use mathlib.Core.Path.{◌≡◌, refl, sym, ap, ◌∙◌}
use mathlib.Core.Bool.{Bool, true}
use mathlib.Core.List.{List, ◌∷◌}
use native.Mathlib.Omega.{arith}
use borrow.Author.Rules.{rules}
use lib.ListN.{length, drop}
use Rattle.octets.specs.Choice.{◌is◌}
use Rattle.octets.specs.Bytes.{BLOCKS}
use Rattle.octets.proofs.Tests.{choice, never}
use Rattle.body.specs.Body.{Block, block, Body, bad_body, body, prepend, blocks}
use Rattle.body.specs.Steps.{found_at, read_back, blocks_in, is_body, body_at, blocks_at}
use Rattle.body.specs.declared.Placed.{Placed}
use Rattle.body.specs.declared.BlockStep.{BlockStep}
use Rattle.body.specs.declared.BlockStep.TheVariants.{Stray, More, Last}
use Rattle.frame.proofs.Stepping.{stray-blocks, more-ordered, more-inside, more-plain, more-blocks, last-ordered, last-inside, last-blocks, none-blocks}
use Rattle.board.specs.Settings.{with_errors}
use Rattle.board.specs.Board.{Board, board, with_settings}
use Rattle.board.specs.Soundness.{sound}
use Rattle.board.specs.declared.Settings.{Settings}
use Rattle.effects.specs.Recording.{fault_noted, with_fault}
use Rattle.effects.specs.InnerLeaving.{Left, left, leaving, left_as, Ready}
use Rattle.effects.specs.declared.Done.{Done}
use Rattle.effects.proofs.ReplyLengths.{room_as}
use Rattle.commands.specs.Blocks.{do_block, run_block}
use Rattle.keeping.proofs.Keeping.{block-keeps}
use Rattle.sign.specs.Run.{nothing, count, measure, Outcome, outcome_as, outcome, untouched, onto, run_blocks}
use Rattle.sign.specs.InnerRunning.{answer_as, Runnable, Running}
use Rattle.sign.specs.declared.Answer.{Answer}
use Rattle.sign.specs.declared.Tally.{Tally}

-- ---- one block

-- the counts with one block more
count-total : (t : Tally) (n : ℕ) → (count t n).done + (count t n).refused ≡ t.done + t.refused + 1
unfolding count
count-total t n =
    choice P (n is 0) (λ e. omega arith)
    (λ e. choice P (t.reason is 0) (λ f. omega arith) (λ f. omega arith))
  where
    P : Tally → Type 0
    P u = u.done + u.refused ≡ t.done + t.refused + 1

measure-total : (t : Tally) (n : ℕ) → (measure t n).done + (measure t n).refused ≡ t.done + t.refused
unfolding measure
measure-total t n = choice (λ (u : Tally). u.done + u.refused ≡ t.done + t.refused) (n is 0) (λ e. refl) (λ e. refl)

-- what a block leaves of x, with its counts
onto-left : (x : Outcome) (k : Block) (n : ℕ) (a : Board) (o' : List ℕ) (l : ℕ) → left n a o' l ≡ leaving x.reply (do_block x.after k) →
    outcome_as x.number (measure (count x.tally n) l) (with_settings a (with_fault a.settings n)) o' ≡ onto x (run_block x.after k)
unfolding onto run_block leaving
onto-left x k n a o' l e =
    ap (λ (y : Left). outcome_as x.number (measure (count x.tally y.number) y.length) (with_settings y.after (with_fault y.after.settings y.number)) y.buffer) e

-- a is what the run has come to, m and o are memory and reply buffer, and s', m' and o' are what the block left
module _ {a : Answer} {m o : List ℕ} (g : Runnable (outcome a m o)) where
  pub block-ready : Ready (board a.settings m) o
  block-ready = g.ready

  pub block-few : a.tally.done + a.tally.refused < BLOCKS
  block-few = g.few

pub block-onto : (a : Answer) (m o : List ℕ) (code : ℕ) (text : List ℕ) (right : Bool) (x : Done) (s' : Settings) (m' o' : List ℕ) →
    left_as x s' m' o' ≡ leaving o (do_block (board a.settings m) (block code text right)) → (f : ℕ) → f ≡ fault_noted s'.errors x.number →
    (v : Tally) → v ≡ count a.tally x.number → (w : Tally) → w ≡ measure v x.length →
    outcome (answer_as a.number w (with_errors s' f)) m' o' ≡ onto (outcome a m o) (run_block (board a.settings m) (block code text right))
block-onto a m o code text right x s' m' o' q f y v p w r =
    rw (r, p, y) (onto-left (outcome a m o) (block code text right) x.number (board s' m') o' x.length q)

pub ruleset one_more = (block-ready, block-few, block-onto, rules)

-- ---- bodies with a block in front

good-behind : (k : Block) (x : Body) → is_body (prepend k x) ≡ true → is_body x ≡ true
unfolding is_body prepend
good-behind k bad_body h = h
good-behind k (body bs) h = refl

blocks-behind : (k : Block) (x : Body) → is_body x ≡ true → blocks_in (prepend k x) ≡ k ∷ blocks_in x
unfolding is_body prepend blocks_in
blocks-behind k bad_body h = never (sym h)
blocks-behind k (body bs) h = refl

-- ---- the blocks

-- what the run has come to, the place of the next block and how many may stand from there on: the board is ready, a good body stands
-- there, and running it leaves what running the whole body leaves
pub record Going (b₀ : Board) (o₀ t : List ℕ) (from : ℕ) (x : Outcome) (at left : ℕ) : Type 0 where
  pub ready : Ready x.after x.reply
  pub few : x.tally.done + x.tally.refused + left ≡ BLOCKS
  pub long : length x.after.memory ≡ length b₀.memory
  pub wide : length x.reply ≡ length o₀
  pub good : is_body (blocks left (drop at t)) ≡ true
  pub same : run_blocks x (blocks_in (blocks left (drop at t))) ≡ run_blocks (untouched 0 b₀ o₀) (blocks_at t from)

pub going_start : {s : Settings} {m o t : List ℕ} {from : ℕ} → Running (board s m) o t from → (a : Answer) → a ≡ answer_as 0 nothing s →
    (left : ℕ) → left ≡ BLOCKS → Going (board s m) o t from (outcome a m o) from left
unfolding body_at blocks_at
going_start {s} {m} {o} {t} {from} g a e left k =
    rw (e, k)
    (record {
      ready = g.ready;
      few = refl;
      long = refl;
      wide = refl;
      good = g.good;
      same = refl;
    })

module _ {b₀ : Board} {o₀ t : List ℕ} {from : ℕ} {x : Outcome} {at left : ℕ} (g : Going b₀ o₀ t from x at left) where
  pub going-runnable : 0 < left → Runnable x
  going-runnable p = record { ready = g.ready; few = omega (arith, g.few) }

  -- a good body is no bad one
  never-bad : {X : Type 0} → blocks left (drop at t) ≡ bad_body → X
  unfolding is_body
  never-bad h = never (sym (sym (ap is_body h) ∙ g.good))

  pub going_end : left ≤ 0 → x ≡ run_blocks (untouched 0 b₀ o₀) (blocks_at t from)
  going_end p = never-bad (none-blocks (drop at t) left p)

  module _ (p : 0 < left) (w : BlockStep) (e : w ≡ found_at t at) where
    pub going-stray : w ≡ Stray → x ≡ run_blocks (untouched 0 b₀ o₀) (blocks_at t from)
    going-stray h = never-bad (stray-blocks t at w e h left p)

    -- behind a block, y is what it left
    module _ (k : Placed) (y : Outcome) (f : y ≡ onto x (run_block x.after (read_back t k))) where
      abbrev here : Block
      here = read_back t k

      -- the last block ends it
      pub going-last : w ≡ Last k → y ≡ run_blocks (untouched 0 b₀ o₀) (blocks_at t from)
      unfolding run_blocks blocks_in
      going-last h = f ∙ sym (ap (λ (z : Body). run_blocks x (blocks_in z)) (last-blocks t at w e h left p)) ∙ g.same

      module _ (n : ℕ) (h : w ≡ More k n) where
        rest : Body
        rest = blocks (left - 1) (drop n t)

        whole : blocks left (drop at t) ≡ prepend here rest
        unfolding rest
        whole = more-blocks t at w e h left p

        rest-good : is_body rest ≡ true
        rest-good = good-behind here rest (sym (ap is_body whole) ∙ g.good)

        ahead : run_blocks (onto x (run_block x.after here)) (blocks_in rest) ≡ run_blocks x (blocks_in (blocks left (drop at t)))
        unfolding run_blocks
        ahead =
            sym (ap (λ (z : Body). run_blocks x (blocks_in z)) whole
            ∙ ap (run_blocks x) (blocks-behind here rest rest-good))

        sound-after : sound y.after ≡ true
        unfolding onto
        sound-after = ap (λ (z : Outcome). sound z.after) f ∙ (block-keeps x.after here).sound (more-plain t at w e h) g.ready.sound

        pub going-more : length y.after.memory ≡ length x.after.memory → length y.reply ≡ length x.reply →
            (less : ℕ) → less ≡ left - 1 → Going b₀ o₀ t from y n less
        unfolding rest onto
        going-more lm lo less q =
            let z = run_block x.after here in
            let total : y.tally.done + y.tally.refused ≡ x.tally.done + x.tally.refused + 1 =
            ap (λ (v : Outcome). v.tally.done + v.tally.refused) f
            ∙ measure-total (count x.tally z.number) (length z.reply) ∙ count-total x.tally z.number in
            rw q
            (record {
              ready = record { sound = sound-after; room = rw lo (room_as x.after.memory y.after.memory lm g.ready.room) };
              few = omega (arith, g.few, total);
              long = lm ∙ g.long;
              wide = lo ∙ g.wide;
              good = rest-good;
              same = ap (λ (v : Outcome). run_blocks v (blocks_in rest)) f ∙ ahead ∙ g.same;
            })

pub ruleset going = (going_start, going-runnable, going_end, going-stray, going-last, going-more, more-ordered, more-inside, last-ordered, last-inside, rules)
