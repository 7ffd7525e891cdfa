-- `store::inside::key_in` meets its contract. Assumes nothing.
use Rattle.store.proofs.Cells.{tells}
use Rattle.store.proofs.inside.key_in.Goals as goal

pub returns-then-cells-cell : goal.returns-then-cells-cell
returns-then-cells-cell c = search tells

pub returns-then-mark-lt1 : goal.returns-then-mark-lt1
returns-then-mark-lt1 c = search tells

pub returns-then-room-mark : goal.returns-then-room-mark
returns-then-room-mark c = search tells

pub returns : goal.returns
returns c = search tells
