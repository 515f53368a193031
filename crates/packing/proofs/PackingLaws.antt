-- Packing: running a joined frame is running the one and then the other.
use Prim.Native.Nat.{ℕ, ◌+◌, ◌≤◌}
use mathlib.Core.Path.{◌≡◌, refl, sym, ap, ap₂, ◌∙◌, subst}
use mathlib.Core.List.{List, [], ◌∷◌, ◌++◌}
use mathlib.Core.Bool.{Bool, true, false, not}
use native.Mathlib.Omega.{arith}
use lib.ListN.{length, length-append}
use borrow.Author.Tests.{eqb-true, ltb-false, le-ltb, not-true}
use Rattle.std.specs.Prelude.{if◌then◌else◌}
use Rattle.octets.specs.Choice.{◌is◌, ◌<?◌}
use Rattle.octets.proofs.Tests.{by-test, or-out-left, or-out-right, split}
use Rattle.header.specs.Addressing.{addressed, starts}
use Rattle.body.specs.Body.{Block, is_read, read_not_last}
use Rattle.reading.specs.Reading.{frame, read}
use Rattle.reading.specs.Capitals.{in_capitals}
use Rattle.frame.proofs.Frames.{capitals-good}
use Rattle.board.specs.Board.{Board}
use Rattle.board.specs.Soundness.{sound}
use Rattle.effects.specs.Reply.{reply_room}
use Rattle.effects.proofs.ReplyLengths.{room_as}
use Rattle.special.specs.Special.{sets_address}
use Rattle.commands.specs.Blocks.{run_block}
use Rattle.keeping.proofs.Keeping.{block-keeps}
use Rattle.sign.specs.Run.{Outcome, untouched, onto, run_blocks, begun, run_frame, run, next}
use Rattle.sign.specs.declared.Tally.{Tally}
use Rattle.sign.proofs.Alike.{run-capitals}
use Rattle.sign.proofs.RunLaws.{none-zero, run-unsound, run_short, blocks-number}
use Rattle.sign.proofs.Steady.{NoReads, run-passed}
use Rattle.packing.specs.Packed.{sets_no_address, SameAsInTurn}
use Rattle.packing.proofs.Adding.{plus, upon, counts-join, Packed}

-- ---- a read is only the last block: so there is none before others

before-some : (x : Bool) (l : List Block) → 1 ≤ length l → read_not_last x l ≡ false → x ≡ false
unfolding read_not_last
before-some x [] n e = absurd (omega arith)
before-some x (b ∷ l) n e = or-out-left x (read_not_last (is_read b.command) l) e

none_before : (x : Bool) (bs cs : List Block) → 1 ≤ length cs → read_not_last x (bs ++ cs) ≡ false → NoReads bs
unfolding read_not_last
none_before x [] cs n e = tt
none_before x (b ∷ bs) cs n e =
    let r = or-out-right x (read_not_last (is_read b.command) (bs ++ cs)) e in
    (before-some (is_read b.command) (bs ++ cs) (rw length-append (omega arith)) r, none_before (is_read b.command) bs cs n r)

-- ---- the address stays where no block sets it

blocks-address : (ks : List Block) → sets_no_address ks ≡ true → (st : Outcome) → (run_blocks st ks).after.settings.address ≡ st.after.settings.address
unfolding sets_no_address run_blocks onto
blocks-address [] n st = refl
blocks-address (k ∷ ks) n st =
    let p = split (not (sets_address k.command k.text)) n in
    let x = run_block st.after k in
    blocks-address ks p.1 (onto st x) ∙ (block-keeps st.after k).address (not-true (sets_address k.command k.text) p.0)

-- ---- a run, case by case

module _ (b : Board) (o f : List ℕ) where
  abbrev fits : List ℕ → Bool
  fits h = addressed b.settings.own b.settings.address h

  module _ (e : sound b ≡ true) (g : (length o <? reply_room b.memory) ≡ false) (h : List ℕ) (ks : List Block) (r : in_capitals (read f) ≡ frame h ks) where
    run-read : run b o f ≡ run_frame b o (frame h ks)
    unfolding run
    run-read = rw (e, g) (sym (run-capitals b o (read f)) ∙ ap (run_frame b o) r)

    run-away : fits h ≡ false → run b o f ≡ untouched 9 b o
    unfolding run_frame
    run-away a = run-read ∙ rw a

    -- a header that asks for no first start
    run-here : starts h ≡ false → fits h ≡ true → run b o f ≡ run_blocks (untouched 0 b o) ks
    unfolding run_frame begun
    run-here t a = run-read ∙ rw (a, t)

  -- a run whose blocks set no address leaves it
  run-address : (h : List ℕ) (ks : List Block) → in_capitals (read f) ≡ frame h ks → starts h ≡ false → sets_no_address ks ≡ true →
      (run b o f).after.settings.address ≡ b.settings.address
  run-address h ks r t n =
      let P : Outcome → Type 0 = λ x. x.after.settings.address ≡ b.settings.address in
      by-test (sound b)
      (λ e. by-test (length o <? reply_room b.memory) (λ g. subst P (sym (run_short b o f e g)) refl)
      (λ g. by-test (fits h) (λ a. subst P (sym (run-here e g h ks r t a)) (blocks-address ks n (untouched 0 b o)))
      (λ a. subst P (sym (run-away e g h ks r a)) refl)))
      (λ e. subst P (sym (run-unsound b o f e)) refl)

-- ---- the theorems: three frames of which the one reads as the two others joined, their headers in capitals and not of type "z"

module _ (b : Board) (o f g j h : List ℕ) (bs cs : List Block)
    (rj : in_capitals (read j) ≡ frame h (bs ++ cs)) (rf : in_capitals (read f) ≡ frame h bs) (rg : in_capitals (read g) ≡ frame h cs)
    (t : starts h ≡ false)
  where
    -- where all three are refused with one number
    alike : (n : ℕ) → run b o j ≡ untouched n b o → run b o f ≡ untouched n b o → run b o g ≡ untouched n b o → Packed b o f g j
    unfolding plus
    alike n a c d =
        let e : next (run b o f) g ≡ untouched n b o = ap (λ (x : Outcome). next x g) c ∙ d in
        record { whole = rw (a, e, c); number = rw (a, c); length = rw (a, e) }

    start : Outcome
    start = untouched 0 b o

    first : Outcome
    first = run_blocks start bs

    later : Outcome
    later = run_blocks (untouched 0 first.after first.reply) cs

    -- where all three run
    module _ (e : sound b ≡ true) (l : (length o <? reply_room b.memory) ≡ false) (a : fits b o f h ≡ true)
        (still : (run b o f).after.settings.address ≡ b.settings.address) where
      quiet : (first.reply ≡ o) × (first.tally.length ≡ 0)
      unfolding start first
      quiet =
          (run-passed bs start).quiet
          (none_before false bs cs (capitals-good g h cs rg).some (capitals-good j h (bs ++ cs) rj).reads)

      ran_first : run b o f ≡ first
      unfolding start first
      ran_first = run-here b o f e l h bs rf t a

      -- the reply buffer has room for the second run too
      roomy : (length first.reply <? reply_room first.after.memory) ≡ false
      unfolding start first
      roomy = rw quiet.0 (le-ltb (length o) _ (room_as b.memory _ (run-passed bs start).memory (ltb-false (length o) (reply_room b.memory) l)))

      ran-later : next (run b o f) g ≡ later
      unfolding start first later
      ran-later =
          let p = run-passed bs start in
          let adr : first.after.settings.address ≡ b.settings.address =
          sym (ap (λ (x : Outcome). x.after.settings.address) ran_first) ∙ still in
          ap (λ (x : Outcome). next x g) ran_first
          ∙ run-here first.after first.reply g (p.sound (capitals-good f h bs rf).plain e) roomy h cs rg t (rw (p.own, adr) a)

      ran-both : run b o j ≡ upon first.tally later
      unfolding start first later
      ran-both = run-here b o j e l h (bs ++ cs) rj t a ∙ counts-join b o bs cs

      later-length : (upon first.tally later).tally.length ≡ later.tally.length
      unfolding plus
      later-length =
          by-test (later.tally.length is 0)
          (λ q. simp q (quiet.1 ∙ sym (eqb-true later.tally.length 0 q))) (λ q. simp q)

      first-number : first.number ≡ 0
      unfolding start first
      first-number = blocks-number bs start

      later-number : later.number ≡ 0
      unfolding later
      later-number = blocks-number cs (untouched 0 first.after first.reply)

      here : Packed b o f g j
      here =
          record {
            whole = ran-both ∙ sym (ap₂ (λ (x : Outcome). upon x.tally) ran_first ran-later);
            number = ap (λ (x : Outcome). x.number) ran-both ∙ later-number ∙ sym (ap (λ (x : Outcome). x.number) ran_first ∙ first-number);
            length =
                ap (λ (x : Outcome). x.tally.length) ran-both ∙ later-length
                ∙ sym (ap (λ (x : Outcome). x.tally.length) ran-later);
          }

    -- on any board, sound or not, with any reply buffer: if the first frame leaves the address as it was
    pub packing : (run b o f).after.settings.address ≡ b.settings.address → Packed b o f g j
    packing still =
        by-test (sound b)
        (λ a. by-test (length o <? reply_room b.memory)
        (λ c. alike 2 (run_short b o j a c) (run_short b o f a c) (run_short b o g a c))
        (λ c. by-test (fits b o f h) (λ d. here a c d still)
        (λ d. alike 9 (run-away b o j a c h (bs ++ cs) rj d) (run-away b o f a c h bs rf d) (run-away b o g a c h cs rg d))))
        (λ a. alike 1 (run-unsound b o j a) (run-unsound b o f a) (run-unsound b o g a))

    -- so if no block of the first frame sets the address
    pub packing-unless-set : sets_no_address bs ≡ true → Packed b o f g j
    packing-unless-set n = packing (run-address b o f h bs rf t n)

-- ---- what the one equation says of the place of the first refused block

place-sum : (t u : Tally) → (t.reason ≡ 0 → t.place ≡ 0) →
    (plus t u).place ≡ (if t.reason is 0 then (if u.reason is 0 then 0 else t.done + t.refused + u.place) else t.place)
unfolding plus
place-sum t u n = by-test (t.reason is 0) (λ q. simp (q, n (eqb-true t.reason 0 q))) (λ q. simp q)

-- and of each part: x after the first frame, y after the second on what x left, z after the joined frame
pub from-packed : (b : Board) (o f g j : List ℕ) → Packed b o f g j → SameAsInTurn (run b o f) (next (run b o f) g) (run b o j)
unfolding plus
from-packed b o f g j p =
    let one = run b o f in
    let other = next one g in
    record {
      board = ap (λ (x : Outcome). x.after) p.whole;
      reply = ap (λ (x : Outcome). x.reply) p.whole;
      number = ap (λ (x : Outcome). x.number) p.whole;
      number-first = p.number;
      length = p.length;
      done = ap (λ (x : Outcome). x.tally.done) p.whole;
      refused = ap (λ (x : Outcome). x.tally.refused) p.whole;
      reason = ap (λ (x : Outcome). x.tally.reason) p.whole;
      place = ap (λ (x : Outcome). x.tally.place) p.whole ∙ place-sum one.tally other.tally (none-zero b o f);
    }
