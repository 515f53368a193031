use Rattle.buffers.proofs.Stores.{cleared-part}
use Rattle.buffers.proofs.copying.zero_at.Goals as goal

pub returns : goal.returns
returns c = cleared-part c.args.dst.now c.args.at c.args.n _ (c.fill.ensures.after (λ y e. e)) c.requires
