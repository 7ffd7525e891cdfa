-- `shape_leaves::inside::entries_of_class` meets its contract. Assumes nothing.
use borrow.Author.Count.{below_none}
use Rattle.shape_leaves.proofs.Leaves.{classes}
use Rattle.shape_leaves.proofs.inside.entries_of_class.Goals as goal

pub loop-i-init : goal.loop-i-init
loop-i-init c = below_none _

pub returns-then-nodes-k-gt10 : goal.returns-then-nodes-k-gt10
returns-then-nodes-k-gt10 c = search classes

pub loop-i-preserved : goal.loop-i-preserved
loop-i-preserved c = search classes

pub returns : goal.returns
returns c = search classes
