-- What blocks and a whole run keep: own type, every length, a sound board sound; and so what the settings keep after every run.
use Prim.Native.Nat.{ℕ, ◌≤◌}
use mathlib.Core.Path.{◌≡◌, refl, ap, ◌∙◌}
use mathlib.Core.List.{List, [], ◌∷◌}
use mathlib.Core.Bool.{true, false, not, ◌&&◌}
use native.Mathlib.Omega.{arith}
use lib.ListN.{length}
use borrow.Author.Tests.{ltb-false}
use Rattle.octets.specs.Choice.{◌is◌, ◌<?◌}
use Rattle.octets.specs.Buffer.{overlay}
use Rattle.octets.proofs.Tests.{by-test, choice}
use Rattle.buffers.proofs.Splices.{overlay-none, length-overlay}
use Rattle.header.specs.Addressing.{addressed, starts}
use Rattle.body.specs.Body.{Block, is_read}
use Rattle.reading.specs.Reading.{Reading, refused, frame, read}
use Rattle.frame.proofs.Frames.{PlainBlocks, read-good}
use Rattle.temperature.specs.Offset.{is_offset}
use Rattle.register.specs.Register.{is_register}
use Rattle.board.specs.Files.{unused}
use Rattle.board.specs.Index.{is_index}
use Rattle.board.specs.Board.{Board, files_on}
use Rattle.board.specs.Soundness.{sound}
use Rattle.board.specs.declared.Settings.{Settings}
use Rattle.board.proofs.Inside.{sound-unused, sound-index}
use Rattle.effects.specs.Reply.{reply_room}
use Rattle.effects.proofs.ReplyLengths.{room_as}
use Rattle.configuration.specs.Starting.{START-MEMORY}
use Rattle.commands.specs.Blocks.{run_block}
use Rattle.keeping.proofs.Keeping.{block-keeps}
use Rattle.sign.specs.Run.{count, measure, Outcome, untouched, onto, run_blocks, begun, run_frame, run}
use Rattle.sign.specs.declared.Tally.{Tally}
use Rattle.sign.proofs.RunLaws.{run-unsound, blocks-number}
use Rattle.sign.proofs.Beginning.{begun-keeps, tested}
use Rattle.sign.proofs.NotSound.{sound-offset, sound-errors}

-- ---- blocks

-- none of the blocks is a read
abbrev pub NoReads : List Block → Type 0
NoReads [] = Unit {0}
NoReads (k ∷ ks) = (is_read k.command ≡ false) × NoReads ks

-- what blocks keep, from one outcome to the next
pub record Passed (ks : List Block) (st x : Outcome) : Type 0 where
  pub own : x.after.settings.own ≡ st.after.settings.own
  pub memory : length x.after.memory ≡ length st.after.memory
  pub reply : reply_room st.after.memory ≤ length st.reply → length x.reply ≡ length st.reply
  pub sound : PlainBlocks ks → sound st.after ≡ true → sound x.after ≡ true
  pub quiet : NoReads ks → (x.reply ≡ st.reply) × (x.tally.length ≡ st.tally.length)

-- a block without a reply
length_none : (t : Tally) (n : ℕ) (s : List ℕ) → s ≡ [] → (measure (count t n) (length s)).length ≡ t.length
unfolding measure count
length_none t n s e =
    rw e
    (choice (λ (u : Tally). u.length ≡ t.length) (n is 0) (λ e. refl)
    (λ e. choice (λ (u : Tally). u.length ≡ t.length) (t.reason is 0) (λ e. refl) (λ e. refl)))

-- blocks, behind any others
pub run-passed : (ks : List Block) (st : Outcome) → Passed ks st (run_blocks st ks)
unfolding run_blocks onto
run-passed [] st = record { own = refl; memory = refl; reply = λ h. refl; sound = λ p s. s; quiet = λ n. (refl, refl) }
run-passed (k ∷ ks) st =
    let x = run_block st.after k in
    let f = block-keeps st.after k in
    let i = run-passed ks (onto st x) in
    record {
      own = i.own ∙ f.own;
      memory = i.memory ∙ f.long;
      reply = λ h.
          let l = length-overlay st.reply x.reply (omega (arith, f.fits)) in
          i.reply (rw l (room_as st.after.memory x.after.memory f.long h)) ∙ l;
      sound = λ p s. i.sound p.1 (f.sound p.0.following s);
      quiet = λ n.
          let r = f.quiet n.0 in
          let q = i.quiet n.1 in
          (q.0 ∙ ap (overlay st.reply) r ∙ overlay-none st.reply, q.1 ∙ length_none st.tally x.number x.reply r);
    }

-- ---- a whole run

-- what a run keeps
pub record Steady (b : Board) (o : List ℕ) (x : Outcome) : Type 0 where
  pub own : x.after.settings.own ≡ b.settings.own
  pub memory : length x.after.memory ≡ length b.memory
  pub reply : length x.reply ≡ length o
  pub sound : sound b ≡ true → sound x.after ≡ true
  pub refused : (x.number ≡ 0 → ⊥) → x ≡ untouched x.number b o

untouched-steady : (b : Board) (o : List ℕ) (n : ℕ) → Steady b o (untouched n b o)
untouched-steady b o n = record { own = refl; memory = refl; reply = refl; sound = λ e. e; refused = λ e. refl }

frame-steady : (b : Board) (o f : List ℕ) → reply_room b.memory ≤ length o → (r : Reading) → read f ≡ r → Steady b o (run_frame b o r)
unfolding run_frame
frame-steady b o f l (refused n) e = untouched-steady b o n
frame-steady b o f l (frame h bs) e =
    let x = begun b h in
    let p = run-passed bs (untouched 0 x o) in
    choice (Steady b o) (not (addressed b.settings.own b.settings.address h)) (λ a. untouched-steady b o 9)
    (λ a. choice (Steady b o) (starts h && length b.memory <? START-MEMORY) (λ c. untouched-steady b o 28)
    (λ c.
    let k = begun-keeps b h (tested h (length b.memory) c) in
    record {
      own = p.own ∙ ap (λ (s : Settings). s.own) k.settings;
      memory = p.memory ∙ k.memory;
      reply = p.reply (room_as b.memory x.memory k.memory l);
      sound = λ g. p.sound (read-good f h bs e).plain (k.sound g);
      refused = λ n. absurd (n (blocks-number bs (untouched 0 x o)));
    }))

-- any frame on any board, with any reply buffer
pub run-steady : (b : Board) (o f : List ℕ) → Steady b o (run b o f)
unfolding run
run-steady b o f =
    choice (Steady b o) (not (sound b)) (λ e. untouched-steady b o 1)
    (λ e. choice (Steady b o) (length o <? reply_room b.memory) (λ g. untouched-steady b o 2)
    (λ g. frame-steady b o f (ltb-false (length o) (reply_room b.memory) g) (read f) refl))

-- a run leaves a sound board sound
pub run_sound : (b : Board) (o f : List ℕ) → sound b ≡ true → sound (run b o f).after ≡ true
run_sound b o f e = (run-steady b o f).sound e

-- "1 to 9: board and buffers untouched, everything else returned is 0."; "28 leaves and returns what 1 to 9 do"
pub run-untouched : (b : Board) (o f : List ℕ) → ((run b o f).number ≡ 0 → ⊥) → run b o f ≡ untouched (run b o f).number b o
run-untouched b o f n = (run-steady b o f).refused n

-- ---- what the settings keep, after any run that is not refused because its board is not sound

module _ (b : Board) (o f : List ℕ) (n : (run b o f).number ≡ 1 → ⊥) where
  left-sound : sound (run b o f).after ≡ true
  left-sound = by-test (sound b) (run_sound b o f) (λ e. absurd (n (ap (λ (x : Outcome). x.number) (run-unsound b o f e))))

  -- request 3, "It always equals the memory length less, for each file, its record and its counted size."
  pub run-unused : (run b o f).after.settings.unused ≡ unused (run b o f).after.settings.files (run b o f).after.memory
  run-unused = sound-unused (run b o f).after left-sound

  -- request 7: the index is true, which ""$" keeps"
  pub run_index : is_index (run b o f).after.settings.places (files_on (run b o f).after) ≡ true
  run_index = sound-index (run b o f).after left-sound

  -- request 9: so that the call which adds the offset to a reading never answers 1 for it
  pub run-offset : is_offset (run b o f).after.settings.offset ≡ true
  run-offset = sound-offset (run b o f).after left-sound

  -- request 10: so that the port driver's call never answers 1 for it
  pub run-errors : is_register (run b o f).after.settings.errors ≡ true
  run-errors = sound-errors (run b o f).after left-sound
