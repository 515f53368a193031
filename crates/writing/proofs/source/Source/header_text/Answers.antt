use borrow.Author.Rules.{rules}
use Rattle.writing.specs.InnerFrames.{text_of}
use Rattle.writing.proofs.source.Source.header_text.Goals as goal

pub returns : goal.returns
unfolding text_of
returns c = search rules
