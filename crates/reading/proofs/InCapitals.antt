-- What was read, its header in capitals: it is a frame as before, and a frame in capitals is its own.
use mathlib.Core.Path.{◌≡◌, refl, ap, ◌∙◌}
use mathlib.Core.Bool.{Bool, true}
use mathlib.Core.List.{List, []}
use Prim.Native.Nat.{ℕ}
use Rattle.octets.specs.Choice.{is_byte, all}
use Rattle.header.specs.Capitals.{header_capitals, no_small_from, no_small}
use Rattle.header.proofs.CapitalsLaws.{header-same, header-none, header-own}
use Rattle.body.specs.Body.{Block}
use Rattle.body.proofs.WellFormed.{anything}
use Rattle.reading.specs.Reading.{Reading, refused, frame, read}
use Rattle.reading.specs.Capitals.{in_capitals}
use Rattle.reading.proofs.FrameLaws.{FrameOf, RefusalOf, ReadingOf, translate-bytes, read_of, read-anything}

capitals-of : (r : ℕ → Bool) (x : Reading) → ReadingOf r x → ReadingOf r (in_capitals x)
unfolding in_capitals
capitals-of r (refused n) g = g
capitals-of r (frame h bs) g = record { header = header-same h ∙ g.header; blocks = g.blocks; reads = g.reads }

-- what reads as a frame is one, its header in capitals too
pub capitals-plain : (s h : List ℕ) (bs : List Block) → in_capitals (read s) ≡ frame h bs → FrameOf anything h bs
capitals-plain s h bs e = rw e at (capitals-of anything (read s) (read-anything s))

-- and its blocks are bytes where all that was read is
pub capitals-bytes : (s h : List ℕ) (bs : List Block) → all is_byte s ≡ true → in_capitals (read s) ≡ frame h bs → FrameOf is_byte h bs
capitals-bytes s h bs a e = rw e at (capitals-of is_byte (read s) (read_of is_byte translate-bytes s a))

-- a refusal is the same one
pub capitals-number : (s : List ℕ) (n : ℕ) → in_capitals (read s) ≡ refused n → RefusalOf n
capitals-number s n e = rw e at (capitals-of anything (read s) (read-anything s))

-- the header of what was read
unfoldable header_of : Reading → List ℕ
header_of (refused n) = []
header_of (frame h bs) = h

header-none-of : (x : Reading) → no_small (header_of (in_capitals x)) ≡ true
unfolding in_capitals header_of no_small no_small_from
header-none-of (refused n) = refl
header-none-of (frame h bs) = header-none h

-- no address character of that header is a small letter
pub capitals-none : (x : Reading) (h : List ℕ) (bs : List Block) → in_capitals x ≡ frame h bs → no_small h ≡ true
unfolding header_of
capitals-none x h bs e =
    let p : header_of (in_capitals x) ≡ h = ap header_of e in
    rw p at (header-none-of x)

-- so what was read is the same twice in capitals
pub capitals-again : (x : Reading) → in_capitals (in_capitals x) ≡ in_capitals x
unfolding in_capitals
capitals-again (refused n) = refl
capitals-again (frame h bs) = ap (λ (g : List ℕ). frame g bs) (header-own (header_capitals h) (header-none h))
