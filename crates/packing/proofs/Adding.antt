-- Runs join: two runs one after the other are one, their counts added.
use Prim.Native.Nat.{ℕ, ◌+◌}
use mathlib.Core.Path.{◌≡◌, refl, sym, ap, ◌∙◌}
use mathlib.Core.Bool.{Bool, true, false}
use mathlib.Core.List.{List, [], ◌∷◌, ◌++◌}
use native.Mathlib.Omega.{arith}
use lib.ListN.{length}
use borrow.Author.Tests.{eqb-true}
use Rattle.std.specs.Prelude.{if◌then◌else◌}
use Rattle.octets.specs.Choice.{◌is◌}
use Rattle.octets.specs.Buffer.{overlay}
use Rattle.octets.proofs.Tests.{by-test}
use Rattle.body.specs.Body.{Block}
use Rattle.board.specs.Board.{Board}
use Rattle.effects.specs.Effects.{Effect}
use Rattle.commands.specs.Blocks.{run_block}
use Rattle.sign.specs.Run.{tally, nothing, count, measure, Outcome, outcome_as, untouched, onto, run_blocks, run, next}
use Rattle.sign.specs.declared.Tally.{Tally}
use Rattle.sign.proofs.RunLaws.{blocks-number}

-- blocks done and refused are the sums; the first refused block is the first's, else the second's, moved by the first's blocks;
-- the reply is the later one, if there is one
unfoldable pub plus : Tally → Tally → Tally
plus t u =
    tally (t.done + u.done) (t.refused + u.refused)
    (if t.reason is 0 then (if u.reason is 0 then t.place else t.done + t.refused + u.place) else t.place)
    (if t.reason is 0 then u.reason else t.reason)
    (if u.length is 0 then t.length else u.length)

-- a run over joined lists is the one and then the other
pub run_join : (st : Outcome) (xs ys : List Block) → run_blocks st (xs ++ ys) ≡ run_blocks (run_blocks st xs) ys
unfolding run_blocks
run_join st [] ys = refl
run_join st (x ∷ xs) ys = run_join (onto st (run_block st.after x)) xs ys

tally-eq : {d r p f n d' r' p' f' n' : ℕ} → d ≡ d' → r ≡ r' → p ≡ p' → f ≡ f' → n ≡ n' → tally d r p f n ≡ tally d' r' p' f' n'
tally-eq a b c d e = λ i. tally (a i) (b i) (c i) (d i) (e i)

count-plus : (t u : Tally) (n : ℕ) → count (plus t u) n ≡ plus t (count u n)
unfolding count plus
count-plus t u n = go (n is 0) (t.reason is 0) (u.reason is 0) refl refl refl
  where
    go : (p q r : Bool) → (n is 0) ≡ p → (t.reason is 0) ≡ q → (u.reason is 0) ≡ r → count (plus t u) n ≡ plus t (count u n)
    go true q r a b c = simp a (tally-eq (omega arith) refl refl refl refl)
    go false true true a b c = simp (a, b, c) (tally-eq refl (omega arith) (omega arith) refl refl)
    go false true false a b c = simp (a, b, c) (tally-eq refl (omega arith) refl refl refl)
    go false false true a b c = simp (a, b, c) (tally-eq refl (omega arith) refl refl refl)
    go false false false a b c = simp (a, b, c) (tally-eq refl (omega arith) refl refl refl)

measure-plus : (t u : Tally) (n : ℕ) → measure (plus t u) n ≡ plus t (measure u n)
unfolding measure plus
measure-plus t u n = by-test (n is 0) (λ a. simp a) (λ a. simp a)

plus-nothing : (t : Tally) → plus t nothing ≡ t
unfolding plus
plus-nothing t =
    by-test (t.reason is 0)
    (λ a. simp a (tally-eq (omega arith) (omega arith) refl (sym (eqb-true t.reason 0 a)) refl))
    (λ a. simp a (tally-eq (omega arith) (omega arith) refl refl refl))

-- an outcome whose counts come on top of others
abbrev pub upon : Tally → Outcome → Outcome
upon t st = outcome_as st.number (plus t st.tally) st.after st.reply

upon-onto : (t : Tally) (st : Outcome) (e : Effect) → onto (upon t st) e ≡ upon t (onto st e)
unfolding onto
upon-onto t st e =
    ap (λ (u : Tally). outcome_as st.number u e.after (overlay st.reply e.reply))
    (ap (λ (u : Tally). measure u (length e.reply)) (count-plus t st.tally e.number)
    ∙ measure-plus t (count st.tally e.number) (length e.reply))

run-upon : (t : Tally) (st : Outcome) (ks : List Block) → run_blocks (upon t st) ks ≡ upon t (run_blocks st ks)
unfolding run_blocks
run-upon t st [] = refl
run-upon t st (k ∷ ks) =
    ap (λ (x : Outcome). run_blocks x ks) (upon-onto t st (run_block st.after k)) ∙ run-upon t (onto st (run_block st.after k)) ks

-- a run from counts t is the run from no counts, its counts upon t
pub run-counts : (b : Board) (o : List ℕ) (t : Tally) (ks : List Block) →
    run_blocks (outcome_as 0 t b o) ks ≡ upon t (run_blocks (untouched 0 b o) ks)
run-counts b o t ks = ap (λ (u : Tally). run_blocks (outcome_as 0 u b o) ks) (sym (plus-nothing t)) ∙ run-upon t (untouched 0 b o) ks

-- so a run over joined lists is the one and then the other, their counts added
pub counts-join : (b : Board) (o : List ℕ) (xs ys : List Block) →
    let st = run_blocks (untouched 0 b o) xs in
    run_blocks (untouched 0 b o) (xs ++ ys) ≡ upon st.tally (run_blocks (untouched 0 st.after st.reply) ys)
counts-join b o xs ys =
    let st = run_blocks (untouched 0 b o) xs in
    run_join (untouched 0 b o) xs ys
    ∙ ap (λ (n : ℕ). run_blocks (outcome_as n st.tally st.after st.reply) ys) (blocks-number xs (untouched 0 b o))
    ∙ run-counts st.after st.reply st.tally ys

-- ---- whole runs

-- running the joined frame leaves the same board and reply buffer as running the first and then the second:
-- j on a board does what f and then g do; the runs answer one number; the reply's length is the second run's
pub record Packed (b : Board) (o f g j : List ℕ) : Type 0 where
  pub whole : run b o j ≡ upon (run b o f).tally (next (run b o f) g)
  pub number : (run b o j).number ≡ (run b o f).number
  pub length : (run b o j).tally.length ≡ (next (run b o f) g).tally.length
