-- `index_grow_layer::inside::grow_layer` meets its contract. Assumes nothing.
use Rattle.index_grow_layer.proofs.Layers.{grows}
use Rattle.index_grow_layer.proofs.inside.grow_layer.Goals as goal

pub returns-in_default : goal.returns-in_default
returns-in_default c = (search grows, search grows)

pub returns : goal.returns
returns c = (search grows, search grows)
