-- `index_grow_node::inside::grow_node` meets its contract. Assumes nothing.
use Rattle.index_grow_node.proofs.Nodes.{grows}
use Rattle.index_grow_node.proofs.inside.+grow_node.Goals as goal

pub returns-then-count-n : goal.returns-then-count-n
returns-then-count-n t c = (search grows, search grows)

pub returns-then-height-eq0 : goal.returns-then-height-eq0
returns-then-height-eq0 t c = (search grows, search grows)

pub returns-in-Two : goal.returns-in-Two
returns-in-Two t c = (search grows, search grows)

pub returns : goal.returns
returns t c = (search grows, search grows)
