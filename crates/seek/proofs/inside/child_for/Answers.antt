-- `seek::inside::child_for` meets its contract. Assumes nothing.
use Rattle.seek.proofs.Down.{downs}
use Rattle.seek.proofs.inside.child_for.Goals as goal

pub returns-then-n-ge255 : goal.returns-then-n-ge255
returns-then-n-ge255 c = search downs

pub returns-then-nodes-at : goal.returns-then-nodes-at
returns-then-nodes-at c = search downs

pub returns : goal.returns
returns c = search downs
