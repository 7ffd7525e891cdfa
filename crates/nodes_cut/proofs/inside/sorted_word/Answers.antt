-- `nodes_cut::inside::sorted_word` meets its contract. Assumes nothing.
use Rattle.nodes_cut.proofs.Words.{words}
use Rattle.nodes_cut.proofs.inside.sorted_word.Goals as goal

pub returns : goal.returns
returns c = search words
