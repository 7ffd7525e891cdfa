-- `index_leaf::inside::place_greater` meets its contract. Assumes nothing.
use Prim.Native.Nat.{ℕ, ◌-◌, ◌≤◌, ◌<◌}
use mathlib.Core.Path.{◌≡◌}
use mathlib.Core.Bool.{false}
use lib.ListN.{get_or}
use Rattle.leaf.specs.Leaf.{none, less}
use Rattle.forest.specs.Nodes.{entries_at}
use Rattle.index_leaf.proofs.inside.place_greater.Given as goal

abbrev pub invariant-loop-i : goal.invariant-loop-i
invariant-loop-i l = (l.i ≤ l.size) × ((j : ℕ) → j < l.i → less l.e (get_or (entries_at l.nodes l.k) j none) ≡ false)

abbrev pub decreases-loop-i : goal.decreases-loop-i
decreases-loop-i l = l.size - l.i
