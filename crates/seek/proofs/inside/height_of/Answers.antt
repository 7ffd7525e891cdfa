-- `seek::inside::height_of` meets its contract. Assumes nothing.
use Rattle.seek.proofs.Down.{downs}
use Rattle.seek.proofs.inside.height_of.Goals as goal

pub returns : goal.returns
returns c = search downs
