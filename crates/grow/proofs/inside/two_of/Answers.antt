-- `grow::inside::two_of` meets its contract. Assumes nothing.
use Rattle.grow.proofs.Layers.{conflicts}
use Rattle.grow.proofs.inside.two_of.Goals as goal

pub returns-then-is_less : goal.returns-then-is_less
returns-then-is_less c = search conflicts

pub returns : goal.returns
returns c = search conflicts
