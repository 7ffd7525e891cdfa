-- `inside::key_of` meets its contract. Assumes nothing.
use Rattle.lent_words.proofs.Words.{between}
use Rattle.lent_nodes.proofs.inside.key_of.Goals as goal

pub returns : goal.returns
returns c = between _ _ _
