-- `inside::cleared` meets its contract. Assumes nothing.
use native.Mathlib.Omega.{arith}
use borrow.Author.Rules.{rules}
use Rattle.turns.proofs.Words.{positions-fit, resized-here}
use Rattle.turns.proofs.inside.cleared.Goals as goal

pub join-requires : goal.join-requires
join-requires c = (omega arith, omega (arith, c.low.ensures), search (rules, positions-fit))

pub returns : goal.returns
returns c = rw (c.join.ensures, c.low.ensures) (resized-here _ _ c.positions.ensures _)
