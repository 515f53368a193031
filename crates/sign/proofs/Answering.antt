-- What a run answers, case by case.
use Prim.Native.Nat.{ℕ, ◌<◌, ◌≤◌}
use mathlib.Core.Path.{◌≡◌, sym, ap, ◌∙◌}
use mathlib.Core.Bool.{Bool, true, false, not, ◌&&◌}
use mathlib.Core.List.{List}
use native.Mathlib.Omega.{arith}
use borrow.Author.Rules.{rules}
use borrow.Author.Tests.{ne_eqb, lt-ltb, le-ltb, ltb-false, not-true, not-false}
use lib.ListN.{length, take}
use Rattle.std.specs.Prelude.{Result, Ok, Err, if◌then◌else◌}
use Rattle.octets.specs.Choice.{◌is◌, ◌<?◌, part}
use Rattle.octets.proofs.Tests.{by-test}
use Rattle.header.specs.Addressing.{addressed, starts}
use Rattle.body.specs.Body.{Block}
use Rattle.body.specs.Steps.{blocks_at}
use Rattle.reading.specs.Reading.{refused, frame, read}
use Rattle.reading.specs.Places.{number_of, numbered, is_printable, bare_read, Reads}
use Rattle.reading.specs.declared.Read.{Read}
use Rattle.reading.specs.declared.Read.TheVariants.{Standard, Printable}
use Rattle.reading.specs.declared.Refusal as reading
use Rattle.frame.proofs.Standing.{Standing, refused-reads, standard-stands, printable-stands, room_within, room-counts}
use Rattle.frame.proofs.Standing.{bare-refused, bare-stands, bare-never}
use Rattle.board.specs.Board.{Board}
use Rattle.board.specs.Soundness.{sound}
use Rattle.board.proofs.Inside.{sound-most}
use Rattle.effects.specs.Reply.{reply_room}
use Rattle.effects.specs.InnerLeaving.{Ready}
use Rattle.effects.proofs.ReplyLengths.{room_as}
use Rattle.configuration.specs.Starting.{START-MEMORY, started}
use Rattle.sign.specs.Run.{nothing, Outcome, outcome, untouched, run_blocks, begun, run_frame, run}
use Rattle.sign.specs.InnerRunning.{number, answer_as, Running, Framed, admission}
use Rattle.sign.specs.declared.Refusal.{Refusal}
use Rattle.sign.specs.declared.Refusal.TheVariants.{NotSound, ReplyTooShort, NotAddressed, WrongType, WrongMemory, MemoryTooSmall}
use Rattle.sign.specs.declared.Answer.{Answer}
use Rattle.sign.proofs.RunLaws.{run-unsound, run_short}
use Rattle.sign.proofs.Beginning.{begun-keeps}

-- ---- 9, 28, or 0: why a frame is not run

module _ (own address : ℕ) (h : List ℕ) (room : ℕ) (x : Bool) (e : x ≡ addressed own address h) where
  pub admit-away : not x ≡ true → 9 ≡ admission own address h room
  unfolding admission
  admit-away y = rw (← e, y)

  module _ (y : not x ≡ false) (z : Bool) (g : z ≡ starts h) where
    pub admit-small : (z && room <? START-MEMORY) ≡ true → 28 ≡ admission own address h room
    unfolding admission
    admit-small w = rw (← e, y, ← g, w)

    pub admit-here : (z && room <? START-MEMORY) ≡ false → 0 ≡ admission own address h room
    unfolding admission
    admit-here w = rw (← e, y, ← g, w)

pub ruleset admitting = (admit-away, admit-small, admit-here, rules)

-- a run by that number
admitted : (b : Board) (o h : List ℕ) (bs : List Block) (n : ℕ) → n ≡ admission b.settings.own b.settings.address h (length b.memory) →
    run_frame b o (frame h bs) ≡ (if n is 0 then run_blocks (untouched 0 (begun b h) o) bs else untouched n b o)
unfolding run_frame admission
admitted b o h bs n e =
    by-test (addressed b.settings.own b.settings.address h)
    (λ a. by-test (starts h && length b.memory <? START-MEMORY) (λ c. rw (e, a, c)) (λ c. rw (e, a, c)))
    (λ a. rw (e, a))

-- where it is 0, a board that starts has memory for it
pub large-enough : (own address : ℕ) (h : List ℕ) (room : ℕ) → 0 ≡ admission own address h room → starts h ≡ true → START-MEMORY ≤ room
unfolding admission
large-enough own address h room e s =
    by-test (addressed own address h)
    (λ a.
    by-test (room <? START-MEMORY)
    (λ c. let no : 0 ≡ 28 = rw (a, s, c) at e in absurd (omega arith))
    (ltb-false room START-MEMORY))
    (λ a. let no : 0 ≡ 9 = rw a at e in absurd (omega arith))

-- a refusal's number is not 0
pub some-number : (x : Refusal) → number x ≡ 0 → ⊥
some-number NotSound e = omega arith
some-number ReplyTooShort e = omega arith
some-number NotAddressed e = omega arith
some-number WrongType e = omega arith
some-number WrongMemory e = omega arith
some-number MemoryTooSmall e = omega arith

-- ---- the board before the first block

module _ (h : List ℕ) (z : Bool) (e : z ≡ starts h) where
  pub begin-large : z ≡ true → (n : ℕ) → (starts h ≡ true → START-MEMORY ≤ n) → START-MEMORY ≤ n
  begin-large f n g = g (sym e ∙ f)

  pub begin-first : z ≡ true → (b x : Board) → x ≡ started b → x ≡ begun b h
  unfolding begun
  begin-first f b x g = g ∙ rw (← e, f)

  pub begin-as-is : z ≡ false → (b : Board) → b ≡ begun b h
  unfolding begun
  begin-as-is f b = rw (← e, f)

pub ruleset beginning = (begin-large, begin-first, begin-as-is, rules)

-- x is that board
module _ {b : Board} {o t : List ℕ} {i j : ℕ} (p : Framed b o t i j) where
  pub begun-sound : sound b ≡ true
  begun-sound = p.running.ready.sound

  module _ (h : starts (part i j t) ≡ true → START-MEMORY ≤ length b.memory) (x : Board) (k : x ≡ begun b (part i j t)) where
    pub begun-running : Running x o t j
    begun-running =
        let y = begun-keeps b (part i j t) h in
        let q = p.running in
        rw k
        (record {
          ready = record { sound = y.sound q.ready.sound; room = room_as b.memory _ y.memory q.ready.room };
          good = q.good;
        })

pub begun-ran : (b x : Board) (h o : List ℕ) → x ≡ begun b h → (bs : List Block) (y : Outcome) → y ≡ run_blocks (untouched 0 x o) bs →
    y ≡ run_blocks (untouched 0 (begun b h) o) bs
begun-ran b x h o k bs y w = w ∙ ap (λ (z : Board). run_blocks (untouched 0 z o) bs) k

pub ruleset running = (begun-sound, begun-running, begun-ran, rules)

-- ---- a frame that was read

module _ (b : Board) (o t : List ℕ) (i j : ℕ) where
  -- 9, 28
  pub frame_refused : (x : Refusal) → number x ≡ admission b.settings.own b.settings.address (part i j t) (length b.memory) → (n : ℕ) → n ≡ number x →
      (r : Answer) → r ≡ answer_as n nothing b.settings → (m : List ℕ) → m ≡ b.memory →
      outcome r m o ≡ run_frame b o (frame (part i j t) (blocks_at t j))
  frame_refused x e n p r q m k =
      rw (q, k, p)
      (sym (admitted b o (part i j t) (blocks_at t j) (number x) e ∙ rw (ne_eqb (number x) 0 (some-number x))))

  -- 0
  pub frame-ran : 0 ≡ admission b.settings.own b.settings.address (part i j t) (length b.memory) → (r : Answer) (m' o' : List ℕ) →
      outcome r m' o' ≡ run_blocks (untouched 0 (begun b (part i j t)) o) (blocks_at t j) → outcome r m' o' ≡ run_frame b o (frame (part i j t) (blocks_at t j))
  frame-ran e r m' o' w = w ∙ sym (admitted b o (part i j t) (blocks_at t j) 0 e)

pub ruleset framing = (large-enough, frame_refused, frame-ran, rules)

-- ---- a board that is ready

module _ {b : Board} {o : List ℕ} (y : Ready b o) (f : List ℕ) where
  -- where a frame stands in bytes t
  parted : {t : List ℕ} {i j : ℕ} → Standing t i j (read f) → Framed b o t i j
  parted w = record { running = record { ready = y; good = w.good }; ordered = w.ordered; inside = w.inside }

  answered : {t : List ℕ} {i j : ℕ} → Standing t i j (read f) → (r : Answer) (m' o' : List ℕ) →
      outcome r m' o' ≡ run_frame b o (frame (part i j t) (blocks_at t j)) → outcome r m' o' ≡ run_frame b o (read f)
  answered w r m' o' q = q ∙ sym (ap (run_frame b o) w.reads)

  refuses : {e : ℕ} → read f ≡ refused e → (n : ℕ) → n ≡ e → (r : Answer) → r ≡ answer_as n nothing b.settings → (m : List ℕ) → m ≡ b.memory → outcome r m o ≡ run_frame b o (read f)
  unfolding run_frame
  refuses h n p r q m k = rw (q, k, h, p)

  module _ {room after : List ℕ} {x : Result Read reading.Refusal} (g : Reads f room x after) where
    -- 3 to 8
    pub roomed-refused : {e : reading.Refusal} → x ≡ Err e → (n : ℕ) → n ≡ number_of e → (r : Answer) → r ≡ answer_as n nothing b.settings → (m : List ℕ) → m ≡ b.memory → outcome r m o ≡ run_frame b o (read f)
    roomed-refused h n k = refuses (refused-reads g h) n k

    -- a standard frame
    module _ {v : Read} {i j : ℕ} (q : x ≡ Ok v) (z : v ≡ Standard i j) where
      stands : Standing f i j (read f)
      stands = standard-stands g (q ∙ ap Ok z)

      pub standard-parted : Framed b o f i j
      standard-parted = parted stands

      pub standard-ran : (r : Answer) (m' o' : List ℕ) → outcome r m' o' ≡ run_frame b o (frame (part i j f) (blocks_at f j)) →
          outcome r m' o' ≡ run_frame b o (read f)
      standard-ran = answered stands

    -- a printable one
    module _ {v : Read} {n i j : ℕ} (q : x ≡ Ok v) (z : v ≡ Printable n i j) where
      printed : x ≡ Ok (Printable n i j)
      printed = q ∙ ap Ok z

      pub printable-within : n ≤ length after
      printable-within = room_within g printed

      pub printable-counts : n ≡ length (take n after)
      printable-counts = room-counts g printed

      pub printable-parted : Framed b o (take n after) i j
      printable-parted = parted (printable-stands g printed)

      pub printable-ran : (r : Answer) (m' o' : List ℕ) →
          outcome r m' o' ≡ run_frame b o (frame (part i j (take n after)) (blocks_at (take n after) j)) → outcome r m' o' ≡ run_frame b o (read f)
      printable-ran = answered (printable-stands g printed)

  -- the same without a room
  module _ (p : is_printable f ≡ false) {x : Result Read reading.Refusal} (e : numbered x ≡ bare_read f) where
    pub bare-none : {v : reading.Refusal} → x ≡ Err v → (n : ℕ) → n ≡ number_of v → (r : Answer) → r ≡ answer_as n nothing b.settings → (m : List ℕ) → m ≡ b.memory → outcome r m o ≡ run_frame b o (read f)
    bare-none h n k = refuses (bare-refused f p e h) n k

    module _ {v : Read} {i j : ℕ} (q : x ≡ Ok v) (z : v ≡ Standard i j) where
      bare-standing : Standing f i j (read f)
      bare-standing = bare-stands f p e (q ∙ ap Ok z)

      pub bare-parted : Framed b o f i j
      bare-parted = parted bare-standing

      pub bare-ran : (r : Answer) (m' o' : List ℕ) → outcome r m' o' ≡ run_frame b o (frame (part i j f) (blocks_at f j)) →
          outcome r m' o' ≡ run_frame b o (read f)
      bare-ran = answered bare-standing

    pub bare-nothing : {v : Read} {n i j : ℕ} → x ≡ Ok v → v ≡ Printable n i j → (r : Answer) (m : List ℕ) → outcome r m o ≡ run_frame b o (read f)
    bare-nothing q z r m = bare-never f p e (q ∙ ap Ok z)

pub ruleset readied =
    (roomed-refused, standard-parted, standard-ran, printable-parted, printable-ran, bare-none, bare-parted, bare-ran, bare-nothing, printable-within, printable-counts, rules)

-- ---- a whole run

module _ (b : Board) (o f : List ℕ) (x : Bool) (e : x ≡ sound b) where
  -- 1
  pub unsound-answered : not x ≡ true → (r : Answer) → r ≡ answer_as 1 nothing b.settings → (m : List ℕ) → m ≡ b.memory → outcome r m o ≡ run b o f
  unsound-answered y r q m k = rw (q, k) (sym (run-unsound b o f (sym e ∙ not-true x y)))

  module _ (y : not x ≡ false) where
    there : sound b ≡ true
    there = sym e ∙ not-false x y

    pub memory-short : (m : List ℕ) → m ≡ b.memory → length m ≤ 32768
    memory-short m k = rw k (sound-most b there)

    -- n is the room that is asked for
    module _ (n : ℕ) (h : n ≡ reply_room b.memory) where
      -- 2
      pub short-answered : length o < n → (r : Answer) → r ≡ answer_as 2 nothing b.settings → (m : List ℕ) → m ≡ b.memory → outcome r m o ≡ run b o f
      short-answered l r q m k = rw (q, k) (sym (run_short b o f there (rw (← h) (lt-ltb (length o) n l))))

      module _ (l : n ≤ length o) where
        pub run-ready : Ready b o
        run-ready = record { sound = there; room = rw h at l }

        pub run_on : (r : Answer) (m' o' : List ℕ) → outcome r m' o' ≡ run_frame b o (read f) → outcome r m' o' ≡ run b o f
        unfolding run
        run_on r m' o' q = q ∙ rw (← e, y, ← h, le-ltb (length o) n l)

pub run-other : (f : List ℕ) (t : Bool) → t ≡ is_printable f → t ≡ false → is_printable f ≡ false
run-other f t e h = sym e ∙ h

pub ruleset answering = (unsound-answered, memory-short, short-answered, run-ready, run_on, run-other, rules)
