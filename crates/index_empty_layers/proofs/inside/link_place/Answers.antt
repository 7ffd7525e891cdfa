-- `index_empty_layers::inside::link_place` meets its contract. Assumes nothing.
use Rattle.seek.proofs.Down.{downs}
use Rattle.index_empty_layers.proofs.inside.link_place.Goals as goal

pub returns : goal.returns
returns c = search downs
