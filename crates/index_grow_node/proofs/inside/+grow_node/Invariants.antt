-- `index_grow_node::inside::grow_node` meets its contract. Assumes nothing.
use Rattle.index_grow_node.proofs.inside.+grow_node.Given as goal

abbrev pub decreases-grow_node : goal.decreases-grow_node
decreases-grow_node l = l.height
