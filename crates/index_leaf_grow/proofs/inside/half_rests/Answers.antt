-- `index_leaf_grow::inside::half_rests` meets its contract. Assumes nothing.
use Rattle.index_leaf_grow.proofs.Leaves.{leaves}
use Rattle.index_leaf_grow.proofs.inside.half_rests.Goals as goal

pub returns-then-ikey-entries : goal.returns-then-ikey-entries
returns-then-ikey-entries c = search leaves

pub returns : goal.returns
returns c = search leaves
