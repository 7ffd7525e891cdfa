-- `index_words::inside::put_at` meets its contract. Assumes nothing.
use Rattle.index_words.proofs.Words.{words}
use Rattle.index_words.proofs.inside.put_at.Goals as goal

pub returns-then-words-at : goal.returns-then-words-at
returns-then-words-at c = search words
