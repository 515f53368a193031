-- For contracts of inner functions only: what the parts of a run need and answer, by the definitions.
use Rattle.std.specs.Prelude.{ℕ, ◌+◌, ◌≤◌, ◌<◌, ◌≡◌, true, not, ◌&&◌, List, length, Result, Ok, Err, if◌then◌else◌}
use Rattle.octets.specs.Choice.{◌<?◌}
use Rattle.octets.specs.Bytes.{BLOCKS}
use Rattle.header.specs.Addressing.{addressed, starts}
use Rattle.body.specs.Steps.{body_at}
use Rattle.board.specs.Board.{Board}
use Rattle.board.specs.declared.Settings.{Settings}
use Rattle.effects.specs.InnerLeaving.{Ready}
use Rattle.configuration.specs.Starting.{START-MEMORY}
use Rattle.sign.specs.Run.{Outcome}
use Rattle.sign.specs.declared.Tally.{Tally}
use Rattle.sign.specs.declared.Answer.{Answer}
use Rattle.sign.specs.declared.Made.{Made}
use Rattle.sign.specs.declared.Refusal.{Refusal}
use Rattle.sign.specs.declared.Refusal.TheVariants.{NotSound, ReplyTooShort, NotAddressed, WrongType, WrongMemory, MemoryTooSmall}

-- the document's number of a refusal: 1 "board not sound", 2 "reply buffer shorter than memory plus 64", 9 "not addressed", 10 and 11 "fresh
-- board: wrong type; wrong memory length", request 11, 28: "memory below 4,186 bytes"
abbrev pub number : Refusal → ℕ
number NotSound = 1
number ReplyTooShort = 2
number NotAddressed = 9
number WrongType = 10
number WrongMemory = 11
number MemoryTooSmall = 28

-- 0 where it is none
abbrev pub number_in : Result (Unit {0}) Refusal → ℕ
number_in (Ok x) = 0
number_in (Err e) = number e

-- what the making of a fresh board answers
abbrev pub made_as : ℕ → Settings → Made
made_as n s = record { number = n; settings = s }

-- a run's answer
abbrev pub answer_as : ℕ → Tally → Settings → Answer
answer_as n t s = record { number = n; tally = t; settings = s }

-- one block more may be run: the board is ready, and fewer blocks than a frame has were run before
pub record Runnable (x : Outcome) : Type 0 where
  pub ready : Ready x.after x.reply
  pub few : x.tally.done + x.tally.refused < BLOCKS

-- a good body stands at a place, and the board is ready
pub record Running (b : Board) (o t : List ℕ) (from : ℕ) : Type 0 where
  pub ready : Ready b o
  pub good : body_at t from ≡ true

-- and its header text before it
pub record Framed (b : Board) (o t : List ℕ) (header from : ℕ) : Type 0 where
  pub running : Running b o t from
  pub ordered : header ≤ from
  pub inside : from ≤ length t

-- why a frame of this header is not run on a board of this type, this address and so much memory: 9, 28; 0 where it is
unfoldable pub admission : ℕ → ℕ → List ℕ → ℕ → ℕ
admission own address h room =
    if not (addressed own address h) then 9
    else if starts h && room <? START-MEMORY then 28
    else 0
