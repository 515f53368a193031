-- For contracts of inner functions only: what is to be written, by the definitions.
use Rattle.std.specs.Prelude.{ℕ, true, List, [], ◌∷◌, Result, Ok, Err}
use Rattle.octets.specs.Choice.{part}
use Rattle.header.specs.Capitals.{header_capitals}
use Rattle.body.specs.Body.{Block, block}
use Rattle.body.specs.Steps.{blocks_at}
use Rattle.reading.specs.Reading.{Reading, refused, frame}
use Rattle.writing.specs.declared.refusal.Refusal.{Refusal}
use Rattle.writing.specs.declared.single.Single.{Single}
use Rattle.writing.specs.declared.source.Source.{Source}
use Rattle.writing.specs.InnerRefusals.{number_of}

-- the header text of a frame that was read
unfoldable pub text_of : Source → List ℕ
text_of x = part x.parts.header x.parts.body x.bytes.now

-- its blocks
unfoldable pub blocks_of : Source → List Block
blocks_of x = blocks_at x.bytes.now x.parts.body

-- what it reads as, its header in capitals
abbrev pub frame_of : Source → Reading
frame_of x = frame (header_capitals (text_of x)) (blocks_of x)

-- the same of a frame that may have been refused
abbrev pub reading_of : Result Source Refusal → Reading
reading_of (Ok x) = frame_of x
reading_of (Err e) = refused (number_of e)

-- the block of a one-command frame
unfoldable pub block_of : Single → List Block
block_of x = block x.command x.text.now true ∷ []
