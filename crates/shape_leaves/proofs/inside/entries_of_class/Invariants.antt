-- `shape_leaves::inside::entries_of_class` meets its contract. Assumes nothing.
use Prim.Native.Nat.{ℕ, ◌<◌}
use mathlib.Core.Path.{◌≡◌}
use mathlib.Core.Bool.{true}
use lib.ListN.{get_or}
use Rattle.leaf.specs.Leaf.{none}
use Rattle.forest.specs.Nodes.{entries_at, of_class}
use Rattle.shape_leaves.proofs.inside.entries_of_class.Given as goal

abbrev pub invariant-loop-i : goal.invariant-loop-i
invariant-loop-i l = (j : ℕ) → j < l.i → of_class (get_or (entries_at l.nodes l.k) j none) ≡ true
