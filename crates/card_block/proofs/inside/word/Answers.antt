-- `inside::word` meets its contract. Assumes nothing.
use Rattle.card_block.proofs.Words.{word-is}
use Rattle.card_block.proofs.inside.word.Goals as goal

pub returns : goal.returns
returns c = search word-is
