-- `edit::inside::place_of` meets its contract. Assumes nothing.
use native.Mathlib.Omega.{arith}
use borrow.Author.Rules.{rules}
use Rattle.edit.proofs.Internodes.{places}
use Rattle.edit.proofs.inside.place_of.Goals as goal

pub loop-j-init : goal.loop-j-init
loop-j-init c = (search rules, λ i a b. absurd (omega arith))

pub returns-then-x-j : goal.returns-then-x-j
returns-then-x-j c = search places

pub loop-j-preserved : goal.loop-j-preserved
loop-j-preserved c = (search rules, search places)

pub returns : goal.returns
returns c = search places
