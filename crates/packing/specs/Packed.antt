-- The third demand, over what the calls promise: three runs and a joining, whatever their outcomes are.
-- A run's promise is an equation, x ≡ run b o f: x is what the call answers, with the board and the reply buffer as it leaves them.
use Rattle.std.specs.Prelude.{ℕ, ◌+◌, ◌≡◌, Bool, true, not, ◌&&◌, List, [], ◌∷◌, if◌then◌else◌}
use Rattle.octets.specs.Choice.{◌is◌, is_byte, all}
use Rattle.body.specs.Body.{Block}
use Rattle.writing.specs.Output.{Output}
use Rattle.writing.specs.Joining.{join}
use Rattle.frame.specs.Results.{result_of}
use Rattle.special.specs.Special.{sets_address}
use Rattle.sign.specs.Run.{Outcome}

-- two frames of bytes that were joined in a form, in some output buffer: what `join` promises, and that it answered 0
pub record Joining (form : ℕ) (first second joined : List ℕ) : Type 0 where
  pub before : List ℕ
  pub left : Output
  pub promise : left ≡ join form first second before
  pub zero : left.answer.number ≡ 0
  pub result : joined ≡ result_of left
  pub first-bytes : all is_byte first ≡ true
  pub second-bytes : all is_byte second ≡ true

-- a frame holds no command to set the serial address
unfoldable pub sets_no_address : List Block → Bool
sets_no_address [] = true
sets_no_address (k ∷ ks) = not (sets_address k.command k.text) && sets_no_address ks

-- running the joined frame leaves the same settings, memory and reply buffer as running the first and then the second;
-- blocks done and refused are the sums: x after the first, y after the second on what x left, z after the joined frame
pub record SameAsInTurn (x y z : Outcome) : Type 0 where
  -- one board: every setting and each byte of memory
  pub board : z.after ≡ y.after
  pub reply : z.reply ≡ y.reply
  -- the three runs answer one number
  pub number : z.number ≡ y.number
  pub number-first : z.number ≡ x.number
  -- the reply is the second run's
  pub length : z.tally.length ≡ y.tally.length
  -- counts are sums
  pub done : z.tally.done ≡ x.tally.done + y.tally.done
  pub refused : z.tally.refused ≡ x.tally.refused + y.tally.refused
  -- the first refused block is the first run's, else the second's, moved by the first frame's blocks
  pub reason : z.tally.reason ≡ (if x.tally.reason is 0 then y.tally.reason else x.tally.reason)
  pub place : z.tally.place ≡
      (if x.tally.reason is 0 then (if y.tally.reason is 0 then 0 else x.tally.done + x.tally.refused + y.tally.place)
      else x.tally.place)
