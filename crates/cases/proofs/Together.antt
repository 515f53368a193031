-- The third demand's theorem has an instance: two frames that are joined, and all three run on one board; so its premises are met together.
use Prim.Native.Nat.{ℕ}
use mathlib.Core.Path.{◌≡◌, refl}
use mathlib.Core.Bool.{true}
use mathlib.Core.List.{List}
use lib.ListN.{take}
use Rattle.octets.specs.Buffer.{zeros}
use Rattle.writing.specs.Joining.{join}
use Rattle.frame.specs.Results.{result_of}
use Rattle.board.specs.Soundness.{sound}
use Rattle.sign.specs.Run.{tally, Outcome, next}
use Rattle.packing.specs.Packed.{Joining, SameAsInTurn}
use Rattle.packing.proofs.Answer.{packed}
use Rattle.sheet.specs.Sheet.{bytes, start}
use Rattle.sheet.proofs.Computing.{base}

-- a file of ten bytes and a message for it, from a meter that sends small letters
pub first : List ℕ
first = bytes "_01Z00,C0a_02E$AAU000aff00_03_02AAHELLO_0301fb_04"

-- another message, one for a file that is not there, and a read
pub second : List ℕ
second = bytes "\0\0\0\0\0\u{1}Z00,C0A\u{2}AAFULL\u{3}01BA\u{2}ABFULL\u{3}\u{2}BA\u{4}"

-- both in one
pub joined : List ℕ
joined = result_of (join 3 first second (zeros 200))

-- the board
pub before : Outcome
before = start 64

-- after the first, after the second on what that left, and after both in one
pub one : Outcome
one = next before first

pub other : Outcome
other = next one second

pub both : Outcome
both = next before joined

-- they were joined
joins : Joining 3 first second joined
unfolding first second joined bytes base
joins =
    record {
      before = zeros 200;
      left = join 3 first second (zeros 200);
      promise = refl;
      zero = refl;
      result = refl;
      first-bytes = refl;
      second-bytes = refl;
    }

-- the joined frame leaves what the two leave in turn
pub together : SameAsInTurn one other both
unfolding before one other both first bytes start base
together =
    packed 3 first second joined joins before.after before.reply one other both refl refl refl refl

-- on a sound board, where it has done four blocks, refused one and replied: so the instance says something
pub record Seen : Type 0 where
  pub sound : sound before.after ≡ true
  pub counts : both.tally ≡ tally 4 1 4 23 37
  pub stored : take 21 both.after.memory ≡ bytes "AAU000AFF00FULL\0\0\0\0\0\0"
  pub replied : take 37 both.reply ≡ bytes "\0\0\0\0\0\0\0\0\0\0\0\0\0\0\0\0\0\0\0\0\u{1}000\u{2}AAFULL\u{3}01BA\u{4}"
  -- request 10: the block that was refused with 23 is in the register
  pub errors : both.after.settings.errors ≡ 0x60

pub seen : Seen
unfolding before both joined first second bytes start base
seen = record { sound = refl; counts = refl; stored = refl; replied = refl; errors = refl }
