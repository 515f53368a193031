-- Runs that are refused before their frame is read; and what the counts of a run are: the numbers of blocks of each outcome.
use Prim.Native.Nat.{ℕ, suc, ◌+◌}
use mathlib.Core.Path.{◌≡◌, refl, sym, ap, ◌∙◌}
use mathlib.Core.List.{List, [], ◌∷◌}
use mathlib.Core.Bool.{Bool, true, false, not, ◌&&◌}
use native.Mathlib.Omega.{arith}
use lib.ListN.{length}
use borrow.Author.Tests.{eq-eqb, eqb-true, eqb-false}
use Rattle.std.specs.Prelude.{if◌then◌else◌}
use Rattle.octets.specs.Choice.{◌is◌, ◌<?◌}
use Rattle.octets.proofs.Tests.{by-test, choice}
use Rattle.body.specs.Body.{Block}
use Rattle.header.specs.Addressing.{addressed, starts}
use Rattle.reading.specs.Reading.{Reading, refused, frame, read}
use Rattle.board.specs.Board.{Board}
use Rattle.board.specs.Soundness.{sound}
use Rattle.effects.specs.Reply.{reply_room}
use Rattle.configuration.specs.Starting.{START-MEMORY}
use Rattle.commands.specs.Blocks.{run_block}
use Rattle.sign.specs.Run.{tally, count, measure, Outcome, untouched, onto, run_blocks, begun, run_frame, run}
use Rattle.sign.specs.Counts.{block_numbers, done_in, refused_in, reason_in, place_in, Counts}
use Rattle.sign.specs.declared.Tally.{Tally}

-- ---- refused before the frame is read

module _ (b : Board) (o f : List ℕ) where
  -- 1 "board not sound"
  pub run-unsound : sound b ≡ false → run b o f ≡ untouched 1 b o
  unfolding run
  run-unsound e = rw e

  -- 2 "reply buffer shorter than memory plus 64"
  pub run_short : sound b ≡ true → (length o <? reply_room b.memory) ≡ true → run b o f ≡ untouched 2 b o
  unfolding run
  run_short e g = rw (e, g)

-- "the frame's number is 0", whatever the numbers of its blocks
pub blocks-number : (ks : List Block) (x : Outcome) → (run_blocks x ks).number ≡ x.number
unfolding run_blocks onto
blocks-number [] x = refl
blocks-number (k ∷ ks) x = blocks-number ks (onto x (run_block x.after k))

-- ---- the numbers of the blocks, one after another

-- there is a number for each block
pub numbers-length : (b : Board) (ks : List Block) → length (block_numbers b ks) ≡ length ks
unfolding block_numbers
numbers-length b [] = refl
numbers-length b (k ∷ ks) = ap suc (numbers-length (run_block b k).after ks)

-- each is 0 or not
pub done-and-refused : (xs : List ℕ) → done_in xs + refused_in xs ≡ length xs
unfolding done_in refused_in
done-and-refused [] = omega arith
done-and-refused (x ∷ xs) =
    let i = done-and-refused xs in
    by-test (x is 0) (λ e. simp (e, e) (omega arith)) (λ e. simp (e, e) (omega arith))

-- where none is refused there is no place
pub place_none : (xs : List ℕ) → reason_in xs ≡ 0 → place_in xs ≡ 0
unfolding reason_in place_in
place_none [] e = refl
place_none (x ∷ xs) e =
    by-test (x is 0)
    (λ q. let z : reason_in xs ≡ 0 = rw q at e in simp (q, eq-eqb (reason_in xs) 0 z))
    (λ q. absurd (eqb-false x 0 q (rw q at e)))

-- ---- counts are those of the numbers

-- counts u are counts t and those of blocks of these numbers behind them
record CountsOn (t u : Tally) (ns : List ℕ) : Type 0 where
  done : u.done ≡ t.done + done_in ns
  refused : u.refused ≡ t.refused + refused_in ns
  reason : u.reason ≡ (if t.reason is 0 then reason_in ns else t.reason)
  place : u.place ≡ (if t.reason is 0 then (if reason_in ns is 0 then t.place else t.done + t.refused + place_in ns) else t.place)

-- with a block in front of the others
counts-one : (n : ℕ) (t u : Tally) (ns : List ℕ) → CountsOn (count t n) u ns → CountsOn t u (n ∷ ns)
unfolding count done_in refused_in reason_in place_in
counts-one n t u ns i = go (n is 0) (t.reason is 0) refl refl
  where
    go : (p q : Bool) → (n is 0) ≡ p → (t.reason is 0) ≡ q → CountsOn t u (n ∷ ns)
    go true q a b =
        let c : CountsOn (tally (t.done + 1) t.refused t.place t.reason t.length) u ns = simp a at i in
        record {
          done = simp a (omega (arith, c.done));
          refused = simp a c.refused;
          reason = simp a c.reason;
          place = simp a (c.place ∙ by-test (reason_in ns is 0) (λ r. simp (r, r)) (λ r. simp (r, r) (ap (λ (x : ℕ). if t.reason is 0 then x else t.place) (omega arith))));
        }
    go false true a b =
        let c : CountsOn (tally t.done (t.refused + 1) (t.done + t.refused + 1) n t.length) u ns = simp (a, b) at i in
        record {
          done = simp a c.done;
          refused = simp a (omega (arith, c.refused));
          reason = simp (a, b) (c.reason ∙ simp a);
          place = simp (a, b) (c.place ∙ simp a);
        }
    go false false a b =
        let c : CountsOn (tally t.done (t.refused + 1) t.place t.reason t.length) u ns = simp (a, b) at i in
        record {
          done = simp a c.done;
          refused = simp a (omega (arith, c.refused));
          reason = simp b (c.reason ∙ simp b);
          place = simp b (c.place ∙ simp b);
        }

-- and its reply's length
counts-more : (n k : ℕ) (t u : Tally) (ns : List ℕ) → CountsOn (measure (count t n) k) u ns → CountsOn t u (n ∷ ns)
unfolding measure
counts-more n k t u ns i =
    counts-one n t u ns
    (by-test (k is 0) (λ z. simp z at i)
    (λ z.
    let c : CountsOn (tally (count t n).done (count t n).refused (count t n).place (count t n).reason k) u ns = simp z at i in
    record { done = c.done; refused = c.refused; reason = c.reason; place = c.place }))

-- blocks, behind any others
run_on : (st : Outcome) (ks : List Block) → CountsOn st.tally (run_blocks st ks).tally (block_numbers st.after ks)
unfolding run_blocks block_numbers onto done_in refused_in reason_in place_in
run_on st [] =
    record {
      done = omega arith;
      refused = omega arith;
      reason = by-test (st.tally.reason is 0) (λ z. simp z (eqb-true st.tally.reason 0 z)) (λ z. simp z);
      place = by-test (st.tally.reason is 0) (λ z. simp z) (λ z. simp z);
    }
run_on st (k ∷ ks) =
    let e = run_block st.after k in
    counts-more e.number (length e.reply) st.tally (run_blocks (onto st e) ks).tally (block_numbers e.after ks)
    (run_on (onto st e) ks)

-- the counts of a run over blocks
pub run-counted : (b : Board) (o : List ℕ) (ks : List Block) → Counts (run_blocks (untouched 0 b o) ks).tally (block_numbers b ks)
run-counted b o ks =
    let c = run_on (untouched 0 b o) ks in
    let ns = block_numbers b ks in
    record {
      done = omega (arith, c.done);
      refused = omega (arith, c.refused);
      reason = c.reason;
      place = c.place ∙ by-test (reason_in ns is 0) (λ z. simp z (sym (place_none ns (eqb-true (reason_in ns) 0 z)))) (λ z. simp z (omega arith));
    }

-- ---- the counts of a whole run

-- counts by what was read
abbrev CountedBy : Board → Reading → Tally → Type 0
CountedBy b (refused n) t = Unit {0}
CountedBy b (frame h bs) t = Counts t (block_numbers (begun b h) bs)

-- a run whose number is 0 has counted; no run has a place without a number
record Tallied (b : Board) (r : Reading) (x : Outcome) : Type 0 where
  counted : x.number ≡ 0 → CountedBy b r x.tally
  none : x.tally.reason ≡ 0 → x.tally.place ≡ 0

frame-tallied : (b : Board) (o : List ℕ) (r : Reading) → Tallied b r (run_frame b o r)
unfolding run_frame
frame-tallied b o (refused n) = record { counted = λ z. tt; none = λ z. refl }
frame-tallied b o (frame h bs) =
    let x = begun b h in
    let c = run-counted x o bs in
    choice (Tallied b (frame h bs)) (not (addressed b.settings.own b.settings.address h))
    (λ e. record { counted = λ z. absurd (omega arith); none = λ z. refl })
    (λ e. choice (Tallied b (frame h bs)) (starts h && length b.memory <? START-MEMORY)
    (λ g. record { counted = λ z. absurd (omega arith); none = λ z. refl })
    (λ g. record { counted = λ z. c; none = λ z. c.place ∙ place_none (block_numbers x bs) (sym c.reason ∙ z) }))

run-tallied : (b : Board) (o f : List ℕ) → Tallied b (read f) (run b o f)
unfolding run
run-tallied b o f =
    choice (Tallied b (read f)) (not (sound b))
    (λ e. record { counted = λ z. absurd (omega arith); none = λ z. refl })
    (λ e. choice (Tallied b (read f)) (length o <? reply_room b.memory)
    (λ g. record { counted = λ z. absurd (omega arith); none = λ z. refl })
    (λ g. frame-tallied b o (read f)))

-- each count of a run whose number is 0 is the number of blocks of that outcome
pub answer-counted : (b : Board) (o f h : List ℕ) (bs : List Block) → read f ≡ frame h bs → (run b o f).number ≡ 0 →
    Counts (run b o f).tally (block_numbers (begun b h) bs)
answer-counted b o f h bs e z = rw e at ((run-tallied b o f).counted z)

-- blocks done and blocks refused are all of them
pub answer-all : (b : Board) (o f h : List ℕ) (bs : List Block) → read f ≡ frame h bs → (run b o f).number ≡ 0 →
    (run b o f).tally.done + (run b o f).tally.refused ≡ length bs
answer-all b o f h bs e z =
    let c = answer-counted b o f h bs e z in
    rw (c.done, c.refused) (done-and-refused (block_numbers (begun b h) bs) ∙ numbers-length (begun b h) bs)

-- "the place (from 1) and number of the first refused block, both 0 if none"
pub none-zero : (b : Board) (o f : List ℕ) → (run b o f).tally.reason ≡ 0 → (run b o f).tally.place ≡ 0
none-zero b o f z = (run-tallied b o f).none z
