-- `inside::load_internode` meets its contract. Assumes nothing.
use Rattle.lent_nodes.proofs.Nodes.{internode-loaded}
use Rattle.lent_nodes.proofs.inside.load_internode.Goals as goal

pub returns : goal.returns
returns c = search internode-loaded
