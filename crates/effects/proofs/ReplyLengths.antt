-- How long replies are: one with a part of memory fits every buffer that a run takes.
use Prim.Native.Nat.{ℕ, ◌+◌, ◌≤◌}
use mathlib.Core.Path.{◌≡◌}
use mathlib.Core.List.{List}
use native.Mathlib.Omega.{arith}
use lib.ListN.{length, take, drop, length-append, length-take, length-drop}
use Rattle.octets.specs.Choice.{front}
use Rattle.octets.specs.Hex.{in_hex4}
use Rattle.octets.specs.Buffer.{zeros}
use Rattle.octets.specs.Bytes.{is_plain}
use Rattle.octets.proofs.Places.{front_length}
use Rattle.body.specs.Sum.{summed}
use Rattle.effects.specs.Reply.{reply_of, reply_room}

-- a reply is 33 bytes and its data
pub reply-length : (code label : ℕ) (d : List ℕ) → length (reply_of code label d) ≡ 33 + length d
unfolding reply_of summed in_hex4 zeros
reply-length code label d = simp length-append (omega arith)

-- what a run asks for is memory's length and 64 more at least
pub room-least : (m : List ℕ) → length m + 64 ≤ reply_room m
unfolding reply_room
room-least m = omega arith

-- it goes by memory's length alone
pub room_as : (m m' : List ℕ) {n : ℕ} → length m' ≡ length m → reply_room m ≤ n → reply_room m' ≤ n
unfolding reply_room
room_as m m' e h = omega arith

-- the reply with a part of memory fits
pub content-fits : (code label : ℕ) (m : List ℕ) (start size : ℕ) →
    length (reply_of code label (front is_plain (take size (drop start m)))) ≤ reply_room m
unfolding reply_room
content-fits code label m start size =
    rw reply-length
    (omega (arith, front_length is_plain (take size (drop start m)), length-take size (drop start m), length-drop start m))
