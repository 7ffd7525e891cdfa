-- `inside::empty` meets its contract. Assumes nothing.
use Rattle.card_load.proofs.Fills.{emptied-by}
use Rattle.card_load.proofs.inside.empty.Goals as goal

pub returns : goal.returns
returns c = search emptied-by
