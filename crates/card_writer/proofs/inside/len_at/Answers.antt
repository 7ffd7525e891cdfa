-- `inside::len_at` meets its contract. Assumes nothing.
use Rattle.card_writer.proofs.Pieces.{len_read}
use borrow.Author.Rules.{rules}
use Rattle.card_writer.proofs.inside.len_at.Goals as goal

pub returns : goal.returns
returns c = (search len_read, search rules)
