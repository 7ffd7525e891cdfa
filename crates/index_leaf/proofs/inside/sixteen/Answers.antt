-- `index_leaf::inside::sixteen` meets its contract. Assumes nothing.
use Prim.Native.Nat.{◌-◌}
use native.Mathlib.Omega.{arith}
use borrow.Author.Rules.{rules}
use Rattle.index_leaf.proofs.Leaves.{sixteens}
use Rattle.index_leaf.proofs.inside.sixteen.Goals as goal

pub loop-i-init : goal.loop-i-init
loop-i-init c = (search rules, λ j h. absurd (omega arith))

pub loop-i-preserved-then-i-p : goal.loop-i-preserved-then-i-p
loop-i-preserved-then-i-p c = (search rules, search sixteens)

pub loop-i-preserved-then-p-i : goal.loop-i-preserved-then-p-i
loop-i-preserved-then-p-i c = (search rules, search sixteens)

pub loop-i-preserved : goal.loop-i-preserved
loop-i-preserved c = (search rules, search sixteens)

pub returns : goal.returns
returns c = search sixteens
