-- `grow::inside::entry_for` meets its contract. Assumes nothing.
use Rattle.grow.proofs.Layers.{conflicts}
use Rattle.grow.proofs.inside.entry_for.Goals as goal

pub returns : goal.returns
returns c = search conflicts
