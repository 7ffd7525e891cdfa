-- `index_words::inside::put_entry` meets its contract. Assumes nothing.
use Rattle.index_words.proofs.Words.{words}
use Rattle.index_words.proofs.inside.put_entry.Goals as goal

pub returns : goal.returns
returns c = search words
