-- How long the replies of special functions are: each fits every buffer that a run takes.
use Prim.Native.Nat.{ℕ, zero, suc, ◌+◌, ◌≤◌}
use mathlib.Core.List.{List}
use native.Mathlib.Omega.{arith}
use lib.ListN.{length, drop, length-append, length-take, length-drop}
use Rattle.octets.specs.Choice.{◌is◌}
use Rattle.octets.specs.Hex.{in_hex4}
use Rattle.octets.specs.Decimal.{in_decimal2}
use Rattle.octets.specs.Bytes.{E}
use Rattle.octets.proofs.Tests.{choice}
use Rattle.board.specs.Settings.{ON}
use Rattle.board.specs.Files.{taken, files_of, heads}
use Rattle.board.specs.Board.{Board}
use Rattle.effects.specs.Reply.{reply_of, reply_room}
use Rattle.effects.proofs.ReplyLengths.{reply-length, room-least}
use Rattle.special.specs.Special.{TIME, SPEAKER, FORMAT, DATE, CONFIGURATION, ERRORS, tell_speaker, tell_pool, tell, tell_time, tell_date}

-- the records of memory are no longer than memory
pub heads-length : (n : ℕ) (r : List ℕ) → length (heads (files_of n r)) ≤ length r
unfolding heads files_of
heads-length zero r = omega arith
heads-length (suc n) r =
    rw (length-append, length-take)
    (omega (arith, heads-length n (drop (11 + taken r) r), length-drop (11 + taken r) r))

tell-length : (b : Board) (label : ℕ) → length (tell b label) ≤ length b.memory + 31
unfolding tell tell_time tell_date tell_speaker tell_pool in_decimal2 in_hex4
tell-length b label =
    choice P (label is TIME) (λ e. omega arith) (λ e.
    choice P (label is SPEAKER) (λ e. choice P (b.settings.speaker is ON) (λ e. omega arith) (λ e. omega arith)) (λ e.
    choice P (label is FORMAT) (λ e. omega arith) (λ e.
    choice P (label is DATE) (λ e. omega arith) (λ e.
    choice P (label is CONFIGURATION) (λ e. omega (arith, heads-length b.settings.files b.memory)) (λ e.
    choice P (label is ERRORS) (λ e. omega arith) (λ e. omega arith))))))
  where
    P : List ℕ → Type 0
    P l = length l ≤ length b.memory + 31

-- the reply of a special function fits
pub told-fits : (b : Board) (label : ℕ) → length (reply_of E label (tell b label)) ≤ reply_room b.memory
told-fits b label = rw reply-length (omega (arith, tell-length b label, room-least b.memory))
