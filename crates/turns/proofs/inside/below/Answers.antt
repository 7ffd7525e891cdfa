-- `inside::below` meets its contract. Assumes nothing.
use Rattle.turns.proofs.Words.{belows}
use Rattle.turns.proofs.inside.below.Goals as goal

pub overflow_sub-result : goal.overflow_sub-result
overflow_sub-result c = search belows

pub returns : goal.returns
returns c = search belows
