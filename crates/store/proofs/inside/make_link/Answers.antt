-- `store::inside::make_link` meets its contract. Assumes nothing.
use Rattle.store.proofs.Writing.{writing}
use Rattle.store.proofs.inside.make_link.Goals as goal

pub returns : goal.returns
returns c = (search writing, search writing)
