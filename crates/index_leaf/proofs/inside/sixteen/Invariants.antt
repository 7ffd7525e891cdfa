-- `index_leaf::inside::sixteen` meets its contract. Assumes nothing.
use Prim.Native.Nat.{ℕ, ◌-◌, ◌<◌}
use mathlib.Core.Path.{◌≡◌}
use lib.ListN.{length, get_or}
use Rattle.leaf.specs.Leaf.{none}
use Rattle.index_leaf.proofs.Leaves.{with-one}
use Rattle.index_leaf.proofs.inside.sixteen.Given as goal

abbrev pub invariant-loop-i : goal.invariant-loop-i
invariant-loop-i l = (length l.all ≡ 16) × ((j : ℕ) → j < l.i → get_or l.all j none ≡ get_or (with-one l.nodes l.k l.p l.e) j none)

abbrev pub decreases-loop-i : goal.decreases-loop-i
decreases-loop-i l = 16 - l.i
