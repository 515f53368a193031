-- Running one frame on a board.
use Rattle.std.specs.Prelude.{ℕ, ◌+◌, not, ◌&&◌, List, [], ◌∷◌, length, if◌then◌else◌}
use Rattle.octets.specs.Choice.{◌is◌, ◌<?◌}
use Rattle.octets.specs.Buffer.{overlay}
use Rattle.body.specs.Body.{Block}
use Rattle.header.specs.Addressing.{addressed, starts}
use Rattle.reading.specs.Reading.{Reading, refused, frame, read}
use Rattle.board.specs.Board.{Board, board}
use Rattle.board.specs.Soundness.{sound}
use Rattle.effects.specs.Reply.{reply_room}
use Rattle.effects.specs.Effects.{Effect}
use Rattle.configuration.specs.Starting.{START-MEMORY, started}
use Rattle.commands.specs.Blocks.{run_block}
use Rattle.sign.specs.declared.Tally.{Tally}
use Rattle.sign.specs.declared.Answer.{Answer}

-- "blocks done, blocks refused, the place (from 1) and number of the first refused block, .. and the reply's length"
abbrev pub tally : ℕ → ℕ → ℕ → ℕ → ℕ → Tally
tally d r p w n = record { done = d; refused = r; place = p; reason = w; length = n }

-- "both 0 if none"
abbrev pub nothing : Tally
nothing = tally 0 0 0 0 0

-- one block more, of that number
unfoldable pub count : Tally → ℕ → Tally
count t number =
    if number is 0 then tally (t.done + 1) t.refused t.place t.reason t.length
    else if t.reason is 0 then tally t.done (t.refused + 1) (t.done + t.refused + 1) number t.length
    else tally t.done (t.refused + 1) t.place t.reason t.length

-- a reply of that length, if there is one
unfoldable pub measure : Tally → ℕ → Tally
measure t n = if n is 0 then t else tally t.done t.refused t.place t.reason n

-- what a run answers and leaves, and has come to behind each of its blocks: its number and counts, the board, and the reply buffer
pub record Outcome : Type 0 where
  pub number : ℕ
  pub tally : Tally
  pub after : Board
  pub reply : List ℕ

-- such an outcome
abbrev pub outcome_as : ℕ → Tally → Board → List ℕ → Outcome
outcome_as n t b o = record { number = n; tally = t; after = b; reply = o }

-- by an answer, memory and a reply buffer
abbrev pub outcome : Answer → List ℕ → List ℕ → Outcome
outcome r m o = outcome_as r.number r.tally (board r.settings m) o

-- "1 to 9: board and buffers untouched, everything else returned is 0."; "28 leaves and returns what 1 to 9 do"; with 0, a run before its
-- first block
abbrev pub untouched : ℕ → Board → List ℕ → Outcome
untouched n b o = outcome_as n nothing b o

-- a block more: "It stands at the start of the reply buffer; nothing after it is touched, and nothing at all where there is no reply."
unfoldable pub onto : Outcome → Effect → Outcome
onto x e = outcome_as x.number (measure (count x.tally e.number) (length e.reply)) e.after (overlay x.reply e.reply)

-- the blocks in order
unfoldable pub run_blocks : Outcome → List Block → Outcome
run_blocks x [] = x
run_blocks x (k ∷ ks) = run_blocks (onto x (run_block x.after k)) ks

-- the board before the first block: request 11, of type "z", "first gets .. files A to Z .. and then runs the blocks"
unfoldable pub begun : Board → List ℕ → Board
begun b h = if starts h then started b else b

-- 3 to 8; 9 "not addressed"; request 11: "28, memory below 4,186 bytes, straight after 9"; else the blocks: "20 to 27 concern one block; the
-- frame's number is 0."
unfoldable pub run_frame : Board → List ℕ → Reading → Outcome
run_frame b o (refused n) = untouched n b o
run_frame b o (frame h bs) =
    if not (addressed b.settings.own b.settings.address h) then untouched 9 b o
    else if starts h && length b.memory <? START-MEMORY then untouched 28 b o
    else run_blocks (untouched 0 (begun b h) o) bs

-- 1 "board not sound", 2 "reply buffer shorter than memory plus 64"
unfoldable pub run : Board → List ℕ → List ℕ → Outcome
run b o f =
    if not (sound b) then untouched 1 b o
    else if length o <? reply_room b.memory then untouched 2 b o
    else run_frame b o (read f)

-- a frame on the board and the reply buffer that a run left
abbrev pub next : Outcome → List ℕ → Outcome
next x g = run x.after x.reply g
