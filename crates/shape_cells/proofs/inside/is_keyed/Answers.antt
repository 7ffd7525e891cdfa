-- `shape_cells::inside::is_keyed` meets its contract. Assumes nothing.
use Rattle.shape_cells.proofs.Cells.{keys}
use Rattle.shape_cells.proofs.inside.is_keyed.Goals as goal

pub returns-then-not-is_under : goal.returns-then-not-is_under
returns-then-not-is_under c = search keys

pub returns-then-read_ikey-ikey : goal.returns-then-read_ikey-ikey
returns-then-read_ikey-ikey c = search keys

pub returns : goal.returns
returns c = search keys
