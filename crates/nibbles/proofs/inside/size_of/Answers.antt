-- `inside::size_of` meets its contract. Assumes nothing.
use lib.Bits.{and_mask}
use Rattle.nibbles.proofs.inside.size_of.Goals as goal

pub returns : goal.returns
returns c = and_mask _ 4
