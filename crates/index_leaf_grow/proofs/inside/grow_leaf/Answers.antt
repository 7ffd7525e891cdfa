-- `index_leaf_grow::inside::grow_leaf` meets its contract. Assumes nothing.
use Rattle.index_leaf_grow.proofs.Leaves.{leaves}
use Rattle.index_leaf_grow.proofs.inside.grow_leaf.Goals as goal

pub returns-then-size-lt15 : goal.returns-then-size-lt15
returns-then-size-lt15 c = (search leaves, search leaves)

pub returns : goal.returns
returns c = (search leaves, search leaves)
