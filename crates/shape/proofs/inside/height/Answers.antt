-- `shape::inside::height` meets its contract. Assumes nothing.
use Rattle.shape.proofs.Internodes.{down}
use Rattle.shape.proofs.inside.height.Goals as goal

pub returns-then-count-n : goal.returns-then-count-n
returns-then-count-n c = search down

pub returns-then-nodes-at-ne-INTERNODE : goal.returns-then-nodes-at-ne-INTERNODE
returns-then-nodes-at-ne-INTERNODE c = search down

pub loop-h-preserved : goal.loop-h-preserved
loop-h-preserved c = search down

pub returns : goal.returns
returns c = search down
