-- `index_leaf::inside::place_greater` meets its contract. Assumes nothing.
use Prim.Native.Nat.{◌-◌}
use native.Mathlib.Omega.{arith}
use borrow.Author.Rules.{rules}
use Rattle.index_leaf.proofs.Leaves.{greater}
use Rattle.index_leaf.proofs.inside.place_greater.Goals as goal

pub loop-i-init : goal.loop-i-init
loop-i-init c = (search rules, λ j h. absurd (omega arith))

pub returns-then-is_less : goal.returns-then-is_less
returns-then-is_less c = search greater

pub loop-i-preserved : goal.loop-i-preserved
loop-i-preserved c = (search rules, search greater)

pub returns : goal.returns
returns c = search greater
