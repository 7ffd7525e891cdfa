-- `shape_cells::inside::cell_free` meets its contract. Assumes nothing.
use Rattle.shape_cells.proofs.Cells.{frees}
use Rattle.shape_cells.proofs.inside.cell_free.Goals as goal

pub returns-then-not-words_zero : goal.returns-then-not-words_zero
returns-then-not-words_zero c = search frees

pub returns : goal.returns
returns c = search frees
