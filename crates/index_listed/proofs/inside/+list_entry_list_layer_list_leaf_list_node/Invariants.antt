-- The walk that notes the cells of a layer, a node, a leaf and an entry meets its contracts. Assumes nothing.
use Prim.Native.Nat.{◌+◌, ◌*◌, ◌-◌, ◌≤◌}
use mathlib.Core.Path.{◌≡◌}
use lib.ListN.{length, drop}
use Rattle.order.specs.Lists.{flattened}
use Rattle.forest.specs.Nodes.{entries_at, children_at}
use Rattle.model.specs.Listed.{cells_of_leaf, cells_of_node}
use Rattle.seek.specs.Below.{layers_below, cells_at}
use Rattle.index_listed.specs.Noted.{noted_all}
use Rattle.index_listed.proofs.inside.+list_entry_list_layer_list_leaf_list_node.Given as goal

abbrev pub decreases-list_entry : goal.decreases-list_entry
decreases-list_entry l = (31 - l.links) * 1000

abbrev pub decreases-list_layer : goal.decreases-list_layer
decreases-list_layer l = (31 - l.links) * 1000 + 900

abbrev pub decreases-list_leaf : goal.decreases-list_leaf
decreases-list_leaf l = (31 - l.links) * 1000 + 1

abbrev pub decreases-list_node : goal.decreases-list_node
decreases-list_node l = (31 - l.links) * 1000 + l.height * 2 + 2

abbrev pub invariant-list_leaf-loop-i : goal.invariant-list_leaf-loop-i
invariant-list_leaf-loop-i l =
    (l.i ≤ l.size) × (length l.order ≡ length l.initial.order)
    × (noted_all (l.order, l.to) (flattened (cells_at (layers_below (31 - l.links) l.nodes)) (drop l.i (entries_at l.nodes l.n)))
    ≡ noted_all (l.initial.order, l.at) (cells_of_leaf (layers_below (31 - l.links) l.nodes) l.nodes l.n))

abbrev pub decreases-list_leaf-loop-i : goal.decreases-list_leaf-loop-i
decreases-list_leaf-loop-i l = l.size - l.i

abbrev pub invariant-list_node-loop-i : goal.invariant-list_node-loop-i
invariant-list_node-loop-i l =
    (l.i ≤ l.many) × (length l.order ≡ length l.initial.order)
    × (noted_all (l.order, l.to) (flattened (cells_of_node (layers_below (31 - l.links) l.nodes) l.nodes (l.height - 1)) (drop l.i (children_at l.nodes l.n)))
    ≡ noted_all (l.initial.order, l.at) (cells_of_node (layers_below (31 - l.links) l.nodes) l.nodes l.height l.n))

abbrev pub decreases-list_node-loop-i : goal.decreases-list_node-loop-i
decreases-list_node-loop-i l = l.many - l.i
