-- `node_words::inside::entry_of` meets its contract. Assumes nothing.
use Rattle.node_words.proofs.Words.{words}
use Rattle.node_words.proofs.inside.entry_of.Goals as goal

pub returns : goal.returns
returns c = search words
