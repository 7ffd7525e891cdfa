-- `index_leaf::inside::leaf_of` meets its contract. Assumes nothing.
use Prim.Native.Nat.{◌-◌, ◌≤◌}
use mathlib.Core.Path.{◌≡◌}
use lib.ListN.{length}
use Rattle.index_leaf.proofs.Leaves.{column}
use Rattle.index_leaf.proofs.inside.leaf_of.Given as goal

abbrev pub invariant-loop-i : goal.invariant-loop-i
invariant-loop-i l =
    (l.i ≤ l.n)
    × (length l.ikeys ≡ 15)
    × (length l.classes ≡ 15)
    × (length l.refs ≡ 15)
    × (l.ikeys ≡ column (λ e. e.ikey) l.entries l.from l.i)
    × (l.classes ≡ column (λ e. e.class) l.entries l.from l.i)
    × (l.refs ≡ column (λ e. e.at) l.entries l.from l.i)

abbrev pub decreases-loop-i : goal.decreases-loop-i
decreases-loop-i l = l.n - l.i
