-- `seek::inside::leaf_for` meets its contract. Assumes nothing.
use Rattle.seek.proofs.Down.{downs}
use Rattle.seek.proofs.inside.leaf_for.Goals as goal

pub loop-h-init : goal.loop-h-init
loop-h-init c = search downs

pub child_for-n-requires : goal.child_for-n-requires
child_for-n-requires c = search downs

pub overflow_sub-h : goal.overflow_sub-h
overflow_sub-h c = search downs

pub loop-h-smaller : goal.loop-h-smaller
loop-h-smaller c = search downs

pub loop-h-preserved : goal.loop-h-preserved
loop-h-preserved c = search downs

pub returns : goal.returns
returns c = search downs
