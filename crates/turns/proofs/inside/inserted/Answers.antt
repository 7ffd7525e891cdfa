-- `inside::inserted` meets its contract. Assumes nothing.
use Rattle.turns.proofs.Words.{inserts}
use Rattle.turns.proofs.inside.inserted.Goals as goal

pub overflow_mul-result : goal.overflow_mul-result
overflow_mul-result c = search inserts

pub overflow_add-result : goal.overflow_add-result
overflow_add-result c = search inserts

pub overflow_add-result-3 : goal.overflow_add-result-3
overflow_add-result-3 c = search inserts

pub overflow_add-result-4 : goal.overflow_add-result-4
overflow_add-result-4 c = search inserts

pub returns : goal.returns
returns c = search inserts
