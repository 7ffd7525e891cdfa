-- `walk::inside::walk_cell` meets its contract. Assumes nothing.
use Rattle.walk.proofs.Steps.{cellwise}
use Rattle.walk.proofs.inside.walk_cell.Goals as goal

pub returns-then-cells-e : goal.returns-then-cells-e
returns-then-cells-e c = search cellwise

pub is_filed-requires : goal.is_filed-requires
is_filed-requires c = search cellwise

pub returns-then-not-is_filed : goal.returns-then-not-is_filed
returns-then-not-is_filed c = search cellwise

pub overflow_mul-c : goal.overflow_mul-c
overflow_mul-c c = search cellwise

pub overflow_add-c : goal.overflow_add-c
overflow_add-c c = search cellwise

pub see_number-requires : goal.see_number-requires
see_number-requires c = search cellwise

pub shape_of-seen : goal.shape_of-seen
shape_of-seen c = search cellwise

pub returns : goal.returns
returns c = search cellwise
