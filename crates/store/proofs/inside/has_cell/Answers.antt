-- `store::inside::has_cell` meets its contract. Assumes nothing.
use Rattle.store.proofs.Counting.{counting}
use Rattle.store.proofs.inside.has_cell.Goals as goal

pub returns-in_default : goal.returns-in_default
returns-in_default c = search counting

pub returns : goal.returns
returns c = search counting
