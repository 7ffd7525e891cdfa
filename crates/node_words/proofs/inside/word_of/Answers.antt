-- `node_words::inside::word_of` meets its contract. Assumes nothing.
use Rattle.node_words.proofs.Words.{words}
use Rattle.node_words.proofs.inside.word_of.Goals as goal

pub returns-then-n-ge255 : goal.returns-then-n-ge255
returns-then-n-ge255 c = search words

pub returns-then-nodes-at : goal.returns-then-nodes-at
returns-then-nodes-at c = search words
