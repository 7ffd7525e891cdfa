-- `grow::inside::put_link` meets its contract. Assumes nothing.
use Rattle.grow.proofs.Layers.{conflicts}
use Rattle.grow.proofs.inside.put_link.Goals as goal

pub returns : goal.returns
returns c = search conflicts
