-- `grow::inside::layers` meets its contract. Assumes nothing.
use Prim.Native.Nat.{◌-◌}
use Rattle.grow.proofs.Needed.{counts}
use Rattle.grow.proofs.inside.layers.Goals as goal

pub loop-at-init : goal.loop-at-init
loop-at-init c = search counts

pub both_go_on-requires : goal.both_go_on-requires
both_go_on-requires c = search counts

pub returns-then-not-both_go_on : goal.returns-then-not-both_go_on
returns-then-not-both_go_on c = search counts

pub overflow_add-made : goal.overflow_add-made
overflow_add-made c = search counts

pub overflow_add-at : goal.overflow_add-at
overflow_add-at c = search counts

pub loop-at-smaller : goal.loop-at-smaller
loop-at-smaller c = search counts

pub loop-at-preserved : goal.loop-at-preserved
loop-at-preserved c = search counts

pub returns : goal.returns
returns c = search counts
