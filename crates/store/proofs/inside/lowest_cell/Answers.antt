-- `store::inside::lowest_cell` meets its contract. Assumes nothing.
use Rattle.store.proofs.Cells.{tells}
use Rattle.store.proofs.inside.lowest_cell.Goals as goal

pub returns-in_default : goal.returns-in_default
returns-in_default c = search tells

pub returns : goal.returns
returns c = search tells
