-- `shape_cells::inside::is_filed` meets its contract. Assumes nothing.
use Rattle.shape_cells.proofs.Cells.{filing}
use Rattle.shape_cells.proofs.inside.is_filed.Goals as goal

pub cell_right-requires : goal.cell_right-requires
cell_right-requires c = search filing

pub returns-then-not-cell_right : goal.returns-then-not-cell_right
returns-then-not-cell_right c = search filing

pub mark-requires : goal.mark-requires
mark-requires c = search filing

pub overflow_sub-len : goal.overflow_sub-len
overflow_sub-len c = search filing

pub key_of-key-requires : goal.key_of-key-requires
key_of-key-requires c = search filing

pub is_keyed-requires : goal.is_keyed-requires
is_keyed-requires c = search filing

pub returns : goal.returns
returns c = search filing
