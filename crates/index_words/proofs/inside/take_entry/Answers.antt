-- `index_words::inside::take_entry` meets its contract. Assumes nothing.
use Rattle.index_words.proofs.Words.{words}
use Rattle.index_words.proofs.inside.take_entry.Goals as goal

pub returns : goal.returns
returns c = search words
