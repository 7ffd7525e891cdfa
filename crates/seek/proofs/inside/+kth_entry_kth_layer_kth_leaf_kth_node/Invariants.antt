-- `seek::inside::kth_layer` and the steps of its walk meet their contracts: a cycle of four. What falls is the number of links that
-- may still follow, and in a layer the height. Assumes nothing.
use Prim.Native.Nat.{◌+◌, ◌*◌, ◌-◌, ◌≤◌}
use mathlib.Core.Path.{◌≡◌}
use lib.ListN.{drop}
use Rattle.order.specs.Lists.{flattened}
use Rattle.forest.specs.Nodes.{entries_at, children_at}
use Rattle.model.specs.Listed.{cells_of_leaf, cells_of_node, reach}
use Rattle.seek.specs.Below.{layers_below, cells_at}
use Rattle.seek.proofs.inside.+kth_entry_kth_layer_kth_leaf_kth_node.Given as goal

abbrev pub decreases-kth_entry : goal.decreases-kth_entry
decreases-kth_entry l = (31 - l.links) * 1000

abbrev pub decreases-kth_layer : goal.decreases-kth_layer
decreases-kth_layer l = (31 - l.links) * 1000 + 900

abbrev pub decreases-kth_leaf : goal.decreases-kth_leaf
decreases-kth_leaf l = (31 - l.links) * 1000 + 1

abbrev pub decreases-kth_node : goal.decreases-kth_node
decreases-kth_node l = (31 - l.links) * 1000 + l.height * 2 + 2

abbrev pub invariant-kth_leaf-loop-i : goal.invariant-kth_leaf-loop-i
invariant-kth_leaf-loop-i l =
    (l.i ≤ l.size)
    × (reach l.k (cells_of_leaf (layers_below (31 - l.links) l.nodes) l.nodes l.n)
    ≡ reach l.left (flattened (cells_at (layers_below (31 - l.links) l.nodes)) (drop l.i (entries_at l.nodes l.n))))

abbrev pub decreases-kth_leaf-loop-i : goal.decreases-kth_leaf-loop-i
decreases-kth_leaf-loop-i l = l.size - l.i

abbrev pub invariant-kth_node-loop-i : goal.invariant-kth_node-loop-i
invariant-kth_node-loop-i l =
    (l.i ≤ l.many)
    × (reach l.k (cells_of_node (layers_below (31 - l.links) l.nodes) l.nodes l.height l.n)
    ≡ reach l.left (flattened (cells_of_node (layers_below (31 - l.links) l.nodes) l.nodes (l.height - 1)) (drop l.i (children_at l.nodes l.n))))

abbrev pub decreases-kth_node-loop-i : goal.decreases-kth_node-loop-i
decreases-kth_node-loop-i l = l.many - l.i
