-- `index_empty_layers::inside::free_layer` meets its contract. Assumes nothing.
use Rattle.index_empty_layers.proofs.Returns.{empties}
use Rattle.index_empty_layers.proofs.inside.free_layer.Goals as goal

pub returns-clause-nodes_after : goal.returns-clause-nodes_after
returns-clause-nodes_after c = search empties
