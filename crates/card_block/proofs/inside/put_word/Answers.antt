-- `inside::put_word` meets its contract. Assumes nothing.
use Rattle.card_block.proofs.Filled.{word-put}
use Rattle.card_block.proofs.inside.put_word.Goals as goal

pub returns : goal.returns
returns c = search word-put
