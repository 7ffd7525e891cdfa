-- `shape::inside::node_free` meets its contract. Assumes nothing.
use Rattle.shape.proofs.Zeros.{free-node}
use Rattle.shape.proofs.inside.node_free.Goals as goal

pub returns : goal.returns
returns c = search free-node
