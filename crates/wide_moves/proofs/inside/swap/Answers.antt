-- `inside::swap` meets its contract. Assumes nothing.
use borrow.Author.Rules.{rules}
use Rattle.bank.specs.Lists.{swapped}
use Rattle.wide_moves.proofs.inside.swap.Goals as goal

pub returns : goal.returns
unfolding swapped
returns c = search rules
