-- `inside::size_of` meets its contract. Assumes nothing.
use Rattle.card_writer.proofs.Pieces.{size_none, size-entry}
use borrow.Author.Rules.{rules}
use Rattle.card_writer.proofs.inside.size_of.Goals as goal

pub returns-then-p-eq0 : goal.returns-then-p-eq0
returns-then-p-eq0 c = (search (size_none, size-entry), search rules)

pub returns : goal.returns
returns c = (search (size_none, size-entry), search rules)
