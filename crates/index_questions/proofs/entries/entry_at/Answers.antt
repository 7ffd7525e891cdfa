-- `index_questions::entries::entry_at` meets its contract. Assumes nothing.
use Rattle.index_questions.proofs.Told.{tells}
use Rattle.index_questions.proofs.entries.entry_at.Goals as goal

pub returns-then-cells-cell : goal.returns-then-cells-cell
returns-then-cells-cell c = search tells

pub returns-then-mark-lt1 : goal.returns-then-mark-lt1
returns-then-mark-lt1 c = search tells

pub returns : goal.returns
returns c = search tells
