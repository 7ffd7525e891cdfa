-- `inside::resize` meets its contract. Assumes nothing.
use borrow.Author.Rules.{rules}
use Rattle.turns.proofs.Words.{positions-fit, resized-here}
use Rattle.turns.proofs.inside.resize.Goals as goal

pub join-requires : goal.join-requires
join-requires c = search (rules, positions-fit)

pub returns : goal.returns
returns c = rw c.join.ensures (resized-here _ _ c.positions.ensures _)
