-- `inside::join` meets its contract. Assumes nothing.
use Rattle.nibbles.proofs.Nibbles.{or-join}
use Rattle.nibbles.proofs.inside.join.Goals as goal

pub returns : goal.returns
returns c = or-join _ _ _ c.requires.0 c.requires.1 c.requires.2
