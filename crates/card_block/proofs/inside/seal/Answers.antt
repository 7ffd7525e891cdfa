-- `inside::seal` meets its contract. Assumes nothing.
use Rattle.card_block.proofs.Filled.{sealed}
use Rattle.card_block.proofs.inside.seal.Goals as goal

pub returns : goal.returns
returns c = search sealed
