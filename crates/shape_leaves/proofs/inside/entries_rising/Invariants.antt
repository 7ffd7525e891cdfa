-- `shape_leaves::inside::entries_rising` meets its contract. Assumes nothing.
use Prim.Native.Nat.{ℕ, ◌-◌, ◌≤◌, ◌<◌}
use mathlib.Core.Path.{◌≡◌}
use mathlib.Core.Bool.{true}
use lib.ListN.{get_or}
use Rattle.leaf.specs.Leaf.{none, less}
use Rattle.forest.specs.Nodes.{entries_at}
use Rattle.shape_leaves.proofs.inside.entries_rising.Given as goal

abbrev pub invariant-loop-i : goal.invariant-loop-i
invariant-loop-i l =
    (j : ℕ) → j < l.i → 1 ≤ j → less (get_or (entries_at l.nodes l.k) (j - 1) none) (get_or (entries_at l.nodes l.k) j none) ≡ true
