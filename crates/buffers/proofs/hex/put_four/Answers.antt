use Rattle.buffers.proofs.Stores.{stores}
use Rattle.buffers.proofs.hex.put_four.Goals as goal

pub returns : goal.returns
returns c = search stores
