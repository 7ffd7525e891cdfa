-- `audit::is_tree` meets its contract. Assumes nothing.
use Rattle.audit.proofs.Judging.{judging}
use Rattle.audit.proofs.is_tree.Goals as goal

pub returns-in_default : goal.returns-in_default
returns-in_default c = search judging

pub bounds-nodes-0 : goal.bounds-nodes-0
bounds-nodes-0 c = search judging

pub walk_layer-requires : goal.walk_layer-requires
walk_layer-requires c = search judging

pub returns-then-not-walk_layer : goal.returns-then-not-walk_layer
returns-then-not-walk_layer c = search judging

pub rest_right-requires : goal.rest_right-requires
rest_right-requires c = search judging

pub returns : goal.returns
returns c = search judging
