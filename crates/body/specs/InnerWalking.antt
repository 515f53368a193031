-- For contracts of inner functions only: what the walk over a block's data needs and answers, and where such data stand.
use Rattle.std.specs.Prelude.{◌≡◌, ℕ, ◌+◌, ◌-◌, ◌<◌, ◌≤◌, true, List, [], ◌∷◌, length, drop, Result, Ok, Err, if◌then◌else◌}
use Rattle.octets.specs.Choice.{front, all}
use Rattle.octets.specs.Bytes.{STX, is_plain}
use Rattle.body.specs.Sum.{sum_from, checksum}
use Rattle.body.specs.Steps.{data_of}
use Rattle.body.specs.declared.Placed.{Placed}
use Rattle.body.specs.declared.walk.Walked.{Walked}

-- the sum of STX and a command byte: a block's, before its data
unfoldable pub opening : ℕ → ℕ
opening c = sum_from 0 (STX ∷ c ∷ [])

-- a sum with each byte of a row added to it, if each one is 05H to FFH
abbrev pub added_up : ℕ → List ℕ → Result ℕ ℕ
added_up start l = if all is_plain l then Ok (sum_from start l) else Err (sum_from start l)

-- the data of s that are left at a place: "bytes 05H to FFH"
abbrev pub left : List ℕ → ℕ → List ℕ
left s to = front is_plain (drop to s)

-- a walk, with data more: where it ends, and a sum with each of their bytes added to it
abbrev pub walked : Walked → List ℕ → Walked
walked w d = record { to = w.to + length d; sum = sum_from w.sum d }

-- walked as far as w: who goes on from there ends where the data end, and with their sum
pub record Walks (s : List ℕ) (start w : Walked) : Type 0 where
  pub within : w.to ≤ length s
  pub same : walked w (left s w.to) ≡ walked start (left s start.to)

-- how many bytes a walk takes at a time
abbrev pub STRIDE : ℕ
STRIDE = 16

-- walked so far that fewer bytes than that are left
pub record Near (s : List ℕ) (start w : Walked) : Type 0 where
  pub walks : Walks s start w
  pub few : length (left s w.to) < STRIDE

-- where a block starts whose data's place is known
abbrev pub stx : Placed → ℕ
stx b = b.from - 2

-- a block's data stand inside s, with a command byte and STX in front of them
pub record Inside (s : List ℕ) (b : Placed) : Type 0 where
  pub start : 2 ≤ b.from
  pub ordered : b.from ≤ b.to
  pub within : b.to ≤ length s

-- a block of which the data were walked: it counts as right, and this is its checksum
pub record Summed (s : List ℕ) (b : Placed) (sum : ℕ) : Type 0 where
  pub inside : Inside s b
  pub right : b.right ≡ true
  pub same : sum ≡ checksum b.command (data_of s b)
