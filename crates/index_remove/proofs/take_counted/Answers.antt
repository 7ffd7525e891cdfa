-- `index_remove::take_counted` meets its contract. Assumes nothing.
use Rattle.index_remove.proofs.Removing.{take_less}
use Rattle.index_remove.proofs.take_counted.Goals as goal

pub returns : goal.returns
returns c = search take_less
