-- The premises of the laws can be met: two frames of Table 38 joined, summed and printable, and a third joined to them.
use mathlib.Core.Path.{◌≡◌, refl}
use mathlib.Core.Bool.{true}
use mathlib.Core.List.{List, [], ◌∷◌}
use Prim.Native.Nat.{ℕ}
use Rattle.octets.specs.Choice.{is_byte, all}
use Rattle.octets.specs.Buffer.{zeros}
use Rattle.body.specs.Body.{Block, block}
use Rattle.forms.specs.Forms.{render}
use Rattle.writing.specs.Reforming.{reform}
use Rattle.writing.specs.Joining.{join}
use Rattle.frame.specs.Joinable.{Joinable}
use Rattle.frame.proofs.Succeeds.{join-only-if}
use Rattle.frame.specs.Results.{result_of, Joined}
use Rattle.frame.proofs.Delivered.{Reformed, reform-reads, join-reads}
use Rattle.frame.proofs.Associates.{FromLeft}
use Rattle.frame.proofs.Computing.{writes}

-- "Z00"
pub header : List ℕ
header = 0x5A ∷ 0x30 ∷ 0x30 ∷ []

-- write text file "A": "HELLO"
pub hello : List Block
hello = block 0x41 (0x41 ∷ 0x48 ∷ 0x45 ∷ 0x4C ∷ 0x4C ∷ 0x4F ∷ []) true ∷ []

-- time in standard format
pub standard-time : List Block
standard-time = block 0x45 (0x27 ∷ 0x53 ∷ []) true ∷ []

-- the one as a plain frame
pub first : List ℕ
first = render 1 header hello

-- the other as a printable one
pub second : List ℕ
second = render 3 header standard-time

-- the first of them for a first start, "z00"
pub starting : List ℕ
starting = render 1 (0x7A ∷ 0x30 ∷ 0x30 ∷ []) hello

-- what follows by computing
record Computed : Type 0 where
  first-bytes : all is_byte first ≡ true
  second-bytes : all is_byte second ≡ true
  starting-bytes : all is_byte starting ≡ true
  reforms : (reform 3 first (zeros 60)).answer.number ≡ 0
  reforms-start : (reform 3 starting (zeros 60)).answer.number ≡ 0
  joins : (join 2 first second (zeros 40)).answer.number ≡ 0
  joins-on : (join 2 (result_of (join 2 first second (zeros 40))) first (zeros 60)).answer.number ≡ 0

computed : Computed
unfolding first second starting header hello standard-time writes
computed =
    record {
      first-bytes = refl;
      second-bytes = refl;
      starting-bytes = refl;
      reforms = refl;
      reforms-start = refl;
      joins = refl;
      joins-on = refl;
    }

-- a re-forming that succeeds
pub reformed : Reformed 3 first (reform 3 first (zeros 60))
reformed = reform-reads 3 first (zeros 60) computed.first-bytes computed.reforms

-- so does one of type "z"
pub started : Reformed 3 starting (reform 3 starting (zeros 60))
started = reform-reads 3 starting (zeros 60) computed.starting-bytes computed.reforms-start

-- a joining that succeeds, by what it asks
pub able : Joinable 2 first second (zeros 40)
able = join-only-if 2 first second (zeros 40) computed.joins

-- and by what it leaves
pub joined : Joined 2 first second (join 2 first second (zeros 40))
joined = join-reads 2 first second (zeros 40) computed.first-bytes computed.second-bytes computed.joins

-- a joining of three
pub three : FromLeft 2 2 first second first (zeros 40) (zeros 60)
three = record { inner = computed.joins; outer = computed.joins-on }
