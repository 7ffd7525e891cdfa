-- `lent_cells::is_suffix` meets its contract. Assumes nothing.
use Rattle.lent_cells.proofs.Cells.{cells}
use Rattle.lent_cells.proofs.inside.is_suffix.Goals as goal

pub returns : goal.returns
returns c = search cells
