-- `nodes_cut::inside::without` meets its contract. Assumes nothing.
use Rattle.nodes_cut.proofs.Words.{words}
use Rattle.nodes_cut.proofs.inside.without.Goals as goal

pub returns-in-Ok : goal.returns-in-Ok
returns-in-Ok c = search words

pub returns-in-Err : goal.returns-in-Err
returns-in-Err c = search words
