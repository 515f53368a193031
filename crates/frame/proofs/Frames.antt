-- What is promised of whatever reads as a frame: a good header text, 1 to 64 blocks of bytes from 05H up, no read before the last of them; the
-- same of the header in capitals, by which boards are addressed alike.
use mathlib.Core.Path.{◌≡◌}
use mathlib.Core.Bool.{true, false}
use mathlib.Core.List.{List}
use Prim.Native.Nat.{ℕ, ◌≤◌}
use lib.ListN.{length}
use Rattle.octets.specs.Bytes.{BLOCKS, is_plain}
use Rattle.header.specs.Addressing.{addressed, starts}
use Rattle.header.specs.Header.{is_header}
use Rattle.header.specs.Capitals.{header_capitals}
use Rattle.header.proofs.CapitalsLaws.{addressed-same, starts-same}
use Rattle.body.specs.Body.{Block, read_not_last}
use Rattle.body.proofs.Plain.{BlocksOf}
use Rattle.body.proofs.WellFormed.{anything}
use Rattle.reading.specs.Reading.{Reading, frame, read}
use Rattle.reading.specs.Capitals.{in_capitals}
use Rattle.reading.proofs.FrameLaws.{FrameOf, read_plain}
use Rattle.reading.proofs.InCapitals.{capitals-plain, capitals-again}

-- "Both are bytes 05H to FFH.": command and data of each block
abbrev pub PlainBlocks : List Block → Type 0
PlainBlocks bs = BlocksOf is_plain bs

-- a header text and blocks as a frame has them
pub record Good (h : List ℕ) (bs : List Block) : Type 0 where
  pub header : is_header h ≡ true
  pub plain : PlainBlocks bs
  pub some : 1 ≤ length bs
  pub few : length bs ≤ BLOCKS
  pub reads : read_not_last false bs ≡ false

by-frame : {h : List ℕ} {bs : List Block} → FrameOf anything h bs → Good h bs
by-frame g = record { header = g.header; plain = g.blocks.plain; some = g.blocks.some; few = g.blocks.few; reads = g.reads }

module _ (s h : List ℕ) (bs : List Block) where
  pub read-good : read s ≡ frame h bs → Good h bs
  read-good e = by-frame (read_plain s h bs e)

  pub capitals-good : in_capitals (read s) ≡ frame h bs → Good h bs
  capitals-good e = by-frame (capitals-plain s h bs e)

-- what was read is the same twice in capitals
pub capitals-twice : (x : Reading) → in_capitals (in_capitals x) ≡ in_capitals x
capitals-twice = capitals-again

-- a board is addressed alike by a header and its capitals
pub addressed-alike : (h : List ℕ) (own address : ℕ) → addressed own address (header_capitals h) ≡ addressed own address h
addressed-alike = addressed-same

-- and they have one type
pub starts-alike : (h : List ℕ) → starts (header_capitals h) ≡ starts h
starts-alike = starts-same
