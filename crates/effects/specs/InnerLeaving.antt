-- For contracts of inner functions only: what they need, answer and leave.
use Rattle.std.specs.Prelude.{ℕ, ◌≤◌, ◌≡◌, true, List, [], ◌∷◌, ◌++◌, length, Result, Ok, Err}
use Rattle.std.specs.Result.{result_unwrap_or}
use Rattle.octets.specs.Hex.{in_hex4}
use Rattle.octets.specs.Buffer.{zeros, splice, overlay}
use Rattle.octets.specs.Bytes.{SOH, STX, ETX, EOT, ZERO}
use Rattle.board.specs.Board.{Board, board}
use Rattle.board.specs.Soundness.{sound}
use Rattle.board.specs.declared.Settings.{Settings}
use Rattle.effects.specs.Reply.{reply_of, reply_room}
use Rattle.effects.specs.Effects.{Effect}
use Rattle.effects.specs.declared.Done.{Done}
use Rattle.effects.specs.declared.Refusal.{Refusal}
use Rattle.effects.specs.declared.Refusal.TheVariants.{WrongChecksum, Unknown, Malformed, NoFile, TooLong}

-- the document's number of a refusal: 20 "block: wrong checksum", 21 "unknown command byte or function label", 22 "data missing, in
-- excess, or malformed", 23 "no file of that label and type", 24 "message longer than SIZE"
abbrev pub number : Refusal → ℕ
number WrongChecksum = 20
number Unknown = 21
number Malformed = 22
number NoFile = 23
number TooLong = 24

-- the number of what is answered, 0 where it is no refusal
abbrev pub number_in : {A : Type 0} → Result A Refusal → ℕ
number_in (Ok x) = 0
number_in (Err e) = number e

-- what a block answers
abbrev pub done_as : ℕ → ℕ → Done
done_as n k = record { number = n; length = k }

-- a reply of that length, or a refusal
abbrev pub done_by : Result ℕ Refusal → Done
done_by r = done_as (number_in r) (result_unwrap_or r 0)

-- a reply, before its data and behind them
unfoldable pub reply_lead : ℕ → ℕ → List ℕ
reply_lead code label = zeros 20 ++ (SOH ∷ ZERO ∷ ZERO ∷ ZERO ∷ STX ∷ code ∷ label ∷ [])

unfoldable pub reply_tail : ℕ → List ℕ
reply_tail sum = ETX ∷ in_hex4 sum ++ (EOT ∷ [])

-- a reply stands at the start of the buffer, and its length is answered
pub record Replied (out : List ℕ) (code label : ℕ) (d after : List ℕ) (n : ℕ) : Type 0 where
  pub stored : after ≡ overlay out (reply_of code label d)
  pub long : n ≡ length (reply_of code label d)

-- a reply's data stand at their place in the buffer, and their length is answered
pub record Told (out d after : List ℕ) (n : ℕ) : Type 0 where
  pub stored : after ≡ splice out 27 d
  pub long : n ≡ length d

-- what a command answered and left: its number, the board, the reply buffer and the length of the reply in it
pub record Left : Type 0 where
  pub number : ℕ
  pub after : Board
  pub buffer : List ℕ
  pub length : ℕ

abbrev pub left : ℕ → Board → List ℕ → ℕ → Left
left n b o k = record { number = n; after = b; buffer = o; length = k }

-- what an effect leaves in a reply buffer
unfoldable pub leaving : List ℕ → Effect → Left
leaving o e = left e.number e.after (overlay o e.reply) (length e.reply)

-- what a block answered, beside settings, memory and reply buffer
abbrev pub left_as : Done → Settings → List ℕ → List ℕ → Left
left_as r s m o = left r.number (board s m) o r.length

-- a sound board, and a reply buffer as long as document 01 asks
pub record Ready (b : Board) (out : List ℕ) : Type 0 where
  pub sound : sound b ≡ true
  pub room : reply_room b.memory ≤ length out
