-- `index_leaf::inside::leaf_of` meets its contract. Assumes nothing.
use Prim.Native.Nat.{◌-◌}
use borrow.Author.Rules.{rules}
use Rattle.index_leaf.proofs.Leaves.{columns}
use Rattle.index_leaf.proofs.inside.leaf_of.Goals as goal

pub loop-i-init : goal.loop-i-init
loop-i-init c = (search rules, search rules, search rules, search rules, search columns, search columns, search columns)

pub loop-i-preserved : goal.loop-i-preserved
loop-i-preserved c = (search rules, search rules, search rules, search rules, search columns, search columns, search columns)

pub returns : goal.returns
returns c = search columns
