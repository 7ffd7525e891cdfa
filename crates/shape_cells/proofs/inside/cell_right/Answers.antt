-- `shape_cells::inside::cell_right` meets its contract. Assumes nothing.
use Rattle.shape_cells.proofs.Cells.{cells}
use Rattle.shape_cells.proofs.inside.cell_right.Goals as goal

pub returns-then-mark-lt1 : goal.returns-then-mark-lt1
returns-then-mark-lt1 c = search cells

pub returns-then-mark-gt257 : goal.returns-then-mark-gt257
returns-then-mark-gt257 c = search cells

pub returns : goal.returns
returns c = search cells
