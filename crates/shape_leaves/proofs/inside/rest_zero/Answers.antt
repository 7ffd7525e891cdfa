-- `shape_leaves::inside::rest_zero` meets its contract. Assumes nothing.
use borrow.Author.Rules.{rules}
use Rattle.shape_leaves.proofs.Leaves.{rests}
use Rattle.shape_leaves.proofs.inside.rest_zero.Goals as goal

pub loop-init : goal.loop-init
loop-init c = (search rests, search rests)

pub entry_at-e-requires : goal.entry_at-e-requires
entry_at-e-requires c = search (rules, rests)

pub loop-preserved : goal.loop-preserved
loop-preserved c = (search rests, search rests)

pub returns : goal.returns
returns c = search rests
