-- A first start, over what a run promises: the blocks run on the board with its files, which stay whatever becomes of the blocks, unless an
-- E "$" is done; 28 changes nothing.
use Prim.Native.Nat.{ℕ, ◌<◌, ◌≤◌}
use mathlib.Core.Path.{◌≡◌, refl, sym, ◌∙◌, subst}
use mathlib.Core.Bool.{true, false, not, ◌&&◌}
use mathlib.Core.List.{List, [], ◌∷◌}
use native.Mathlib.Omega.{arith}
use lib.ListN.{length}
use borrow.Author.Tests.{le-ltb, lt-ltb, ltb-false, eqb-false, not-true, not-false}
use Rattle.octets.specs.Choice.{◌is◌, ◌<?◌, all}
use Rattle.octets.specs.Bytes.{is_plain}
use Rattle.octets.proofs.Tests.{by-test, choice, and-some, split}
use Rattle.header.specs.Addressing.{addressed, starts}
use Rattle.body.specs.Body.{Block}
use Rattle.reading.specs.Reading.{frame, read}
use Rattle.frame.proofs.Frames.{PlainBlocks, read-good}
use Rattle.board.specs.Files.{heads}
use Rattle.board.specs.Board.{Board, files_on}
use Rattle.board.specs.Soundness.{sound}
use Rattle.board.proofs.Inside.{sound-held}
use Rattle.effects.specs.Reply.{reply_room}
use Rattle.configuration.specs.Starting.{START-MEMORY, started}
use Rattle.configuration.proofs.StartingLaws.{started-sound, started-files, started-records}
use Rattle.commands.specs.Blocks.{run_block}
use Rattle.keeping.specs.Keeping.{configures}
use Rattle.keeping.proofs.Keeping.{block-keeps}
use Rattle.sign.specs.Run.{Outcome, untouched, onto, run_blocks, begun, run_frame, run}
use Rattle.sign.specs.Counts.{block_numbers}
use Rattle.sign.specs.Starts.{replaces_none, FirstFiles}

-- ---- records that blocks leave

record Same (b x : Board) : Type 0 where
  count : x.settings.files ≡ b.settings.files
  records : heads (files_on x) ≡ heads (files_on b)
  sound : sound x ≡ true

-- a block that is no "$", or is refused
block_same : (b : Board) (k : Block) → all is_plain k.text ≡ true → sound b ≡ true →
    ((run_block b k).number is 0 && configures k.command k.text) ≡ false → Same b (run_block b k).after
block_same b k p s n =
    let f = block-keeps b k in
    let x = run_block b k in
    by-test (configures k.command k.text)
    (λ c.
    let e = (f.refused (eqb-false x.number 0 (sym (and-some (x.number is 0) c) ∙ n))).0 in
    record { count = rw e; records = rw e; sound = f.sound p s })
    (λ c. record { count = f.files c; records = f.records c p (sound-held b s); sound = f.sound p s })

blocks-same : (ks : List Block) (st : Outcome) → PlainBlocks ks → sound st.after ≡ true → replaces_none ks (block_numbers st.after ks) ≡ true →
    Same st.after (run_blocks st ks).after
unfolding run_blocks onto block_numbers replaces_none
blocks-same [] st p s n = record { count = refl; records = refl; sound = s }
blocks-same (k ∷ ks) st p s n =
    let x = run_block st.after k in
    let t = split (not (x.number is 0 && configures k.command k.text)) n in
    let i = block_same st.after k p.0.following s (not-true _ t.0) in
    let r = blocks-same ks (onto st x) p.1 i.sound t.1 in
    record { count = r.count ∙ i.count; records = r.records ∙ i.records; sound = r.sound }

-- ---- a run

-- one that answers 0: its board was sound and memory had room, and its blocks ran on the board with the files of a first start
record Ran (b : Board) (o : List ℕ) (bs : List Block) (x : Outcome) : Type 0 where
  sound : sound b ≡ true
  room : START-MEMORY ≤ length b.memory
  blocks : x ≡ run_blocks (untouched 0 (started b) o) bs

module _ (b : Board) (o h : List ℕ) (bs : List Block) (s : starts h ≡ true) where
  abbrev IfRan : Outcome → Type 0
  IfRan x = x.number ≡ 0 → Ran b o bs x

  frame-ran : sound b ≡ true → IfRan (run_frame b o (frame h bs))
  unfolding run_frame begun
  frame-ran g =
      choice IfRan (not (addressed b.settings.own b.settings.address h)) (λ a z. absurd (omega arith))
      (λ a. choice IfRan (starts h && length b.memory <? START-MEMORY) (λ c z. absurd (omega arith))
      (λ c z. record { sound = g; room = ltb-false (length b.memory) START-MEMORY (rw s at c); blocks = rw s }))

  module _ (f : List ℕ) (e : read f ≡ frame h bs) where
    ran : IfRan (run b o f)
    unfolding run
    ran =
        choice IfRan (not (sound b)) (λ g z. absurd (omega arith))
        (λ g. choice IfRan (length o <? reply_room b.memory) (λ l z. absurd (omega arith)) (λ l. rw e (frame-ran (not-false (sound b) g))))

    module _ (z : (run b o f).number ≡ 0) where
      -- it "first gets" its files "and then runs the blocks"
      pub start-runs : run b o f ≡ run_blocks (untouched 0 (started b) o) bs
      start-runs = (ran z).blocks

      -- they stay whatever becomes of the blocks, unless a "$" is done
      pub start-files : replaces_none bs (block_numbers (started b) bs) ≡ true → FirstFiles (run b o f).after
      start-files n =
          let r = ran z in
          let c = blocks-same bs (untouched 0 (started b) o) (read-good f h bs e).plain (started-sound b r.room r.sound) n in
          subst (λ (x : Outcome). FirstFiles x.after) (sym r.blocks)
          (record { count = c.count ∙ started-files b; records = c.records ∙ started-records b; sound = c.sound })

    -- "28, memory below 4,186 bytes, straight after 9 in a run", with all untouched
    pub start_small : sound b ≡ true → reply_room b.memory ≤ length o → addressed b.settings.own b.settings.address h ≡ true →
        length b.memory < START-MEMORY → run b o f ≡ untouched 28 b o
    unfolding run run_frame
    start_small g l a c = rw (g, le-ltb (length o) (reply_room b.memory) l, e, a, s, lt-ltb (length b.memory) START-MEMORY c)
