-- `inside::fill_block` meets its contract. Assumes nothing.
use borrow.Author.Rules.{rules}
use Rattle.card_writer.proofs.Streams.{cursor-block}
use Rattle.card_writer.proofs.inside.fill_block.Goals as goal

pub returns : goal.returns
returns c = (search cursor-block, search rules)
