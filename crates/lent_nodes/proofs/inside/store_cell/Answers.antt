-- `inside::store_cell` meets its contract. Assumes nothing.
use Rattle.lent_nodes.proofs.Cells.{cell-written, key-written}
use Rattle.lent_nodes.proofs.inside.store_cell.Goals as goal

pub returns : goal.returns
returns c = (search cell-written, search key-written)
