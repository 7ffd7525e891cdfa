-- `index_words::inside::lowest` meets its contract. Assumes nothing.
use Rattle.index_words.proofs.Words.{words}
use Rattle.index_words.proofs.inside.lowest.Goals as goal

pub returns-in_default : goal.returns-in_default
returns-in_default c = search words

pub returns : goal.returns
returns c = search words
