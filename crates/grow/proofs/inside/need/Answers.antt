-- `grow::inside::need` meets its contract. Assumes nothing.
use Rattle.grow.proofs.Needed.{counts}
use Rattle.grow.proofs.inside.need.Goals as goal

pub loop-h-init : goal.loop-h-init
loop-h-init c = search counts

pub word_of-requires : goal.word_of-requires
word_of-requires c = search counts

pub split_too-taken-requires : goal.split_too-taken-requires
split_too-taken-requires c = search counts

pub child_for-n-requires : goal.child_for-n-requires
child_for-n-requires c = search counts

pub overflow_sub-h : goal.overflow_sub-h
overflow_sub-h c = search counts

pub loop-h-smaller : goal.loop-h-smaller
loop-h-smaller c = search counts

pub loop-h-preserved : goal.loop-h-preserved
loop-h-preserved c = search counts

pub word_of-requires-2 : goal.word_of-requires-2
word_of-requires-2 c = search counts

pub size_of-requires : goal.size_of-requires
size_of-requires c = search counts

pub split_too-requires : goal.split_too-requires
split_too-requires c = search counts

pub returns : goal.returns
returns c = search counts
