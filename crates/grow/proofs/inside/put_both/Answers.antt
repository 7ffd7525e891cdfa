-- `grow::inside::put_both` meets its contract. Assumes nothing.
use Rattle.grow.proofs.Layers.{conflicts}
use Rattle.grow.proofs.inside.put_both.Goals as goal

pub returns : goal.returns
returns c = search conflicts
