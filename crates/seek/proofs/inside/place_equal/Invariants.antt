-- `seek::inside::place_equal` meets its contract. Assumes nothing.
use Prim.Native.Nat.{ℕ, ◌-◌, ◌≤◌, ◌<◌}
use mathlib.Core.Path.{◌≡◌}
use mathlib.Core.Bool.{false}
use lib.Dec.{compare_is_eq}
use lib.ListN.{get_or}
use Rattle.order.specs.Layer.{class_of}
use Rattle.leaf.specs.Leaf.{none, against}
use Rattle.forest.specs.Nodes.{entries_at}
use Rattle.seek.proofs.inside.place_equal.Given as goal

abbrev pub invariant-loop-i : goal.invariant-loop-i
invariant-loop-i l =
    (l.i ≤ l.size) × ((j : ℕ) → j < l.i → compare_is_eq (against l.ikey (class_of l.len) (get_or (entries_at l.nodes l.n) j none)) ≡ false)

abbrev pub decreases-loop-i : goal.decreases-loop-i
decreases-loop-i l = l.size - l.i
