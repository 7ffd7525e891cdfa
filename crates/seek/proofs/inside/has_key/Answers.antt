-- `seek::inside::has_key` meets its contract. Assumes nothing.
use Rattle.seek.proofs.Seeks.{seeks}
use Rattle.seek.proofs.inside.has_key.Goals as goal

pub returns-then-cells-c : goal.returns-then-cells-c
returns-then-cells-c c = search seeks

pub returns-then-cells-k : goal.returns-then-cells-k
returns-then-cells-k c = search seeks

pub returns-in-Less : goal.returns-in-Less
returns-in-Less c = search seeks

pub returns-in-Equal : goal.returns-in-Equal
returns-in-Equal c = search seeks

pub returns-in-Greater : goal.returns-in-Greater
returns-in-Greater c = search seeks
