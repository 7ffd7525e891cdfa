-- `seek::inside::child_at` meets its contract. Assumes nothing.
use Rattle.seek.proofs.Reaches.{reaches}
use Rattle.seek.proofs.inside.child_at.Goals as goal

pub overflow_mul-result : goal.overflow_mul-result
overflow_mul-result c = search reaches

pub overflow_add-result : goal.overflow_add-result
overflow_add-result c = search reaches

pub overflow_add-result-2 : goal.overflow_add-result-2
overflow_add-result-2 c = search reaches

pub overflow_add-result-3 : goal.overflow_add-result-3
overflow_add-result-3 c = search reaches

pub offset_bounds-nodes-n : goal.offset_bounds-nodes-n
offset_bounds-nodes-n c = search reaches

pub bounds-nodes-n : goal.bounds-nodes-n
bounds-nodes-n c = search reaches

pub returns : goal.returns
returns c = search reaches
