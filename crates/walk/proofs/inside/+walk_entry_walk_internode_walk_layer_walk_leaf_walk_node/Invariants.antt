-- The walk meets its contracts: layer walk calls node walk, which calls layer walk at a link. What falls is the links that may yet follow,
-- and
-- within a layer the height that is left. Assumes nothing.
use Prim.Native.Nat.{◌+◌, ◌-◌, ◌*◌, ◌≤◌}
use mathlib.Core.Path.{◌≡◌}
use mathlib.Core.List.{map}
use lib.ListN.{length, take, drop}
use Rattle.arena.specs.Memory.{memory}
use Rattle.forest.specs.Nodes.{entries_at, ikeys_at, children_at}
use Rattle.forest.specs.Trees.{seen_as}
use Rattle.forest.specs.Walk.{each, walk_entry, walk_span, spans, walk_node, walk_leaf, walk_internode}
use Rattle.edge.specs.Edges.{left_of, right_of}
use Rattle.walk.specs.Steps.{refs_at}
use Rattle.walk.proofs.inside.+walk_entry_walk_internode_walk_layer_walk_leaf_walk_node.Given as goal

abbrev pub decreases-walk_entry : goal.decreases-walk_entry
decreases-walk_entry l = (31 - l.links) * 100000 + 10

abbrev pub decreases-walk_internode : goal.decreases-walk_internode
decreases-walk_internode l = (31 - l.links) * 100000 + l.h * 300 + 100

abbrev pub decreases-walk_layer : goal.decreases-walk_layer
decreases-walk_layer l = (31 - l.links) * 100000 + 99999

abbrev pub decreases-walk_leaf : goal.decreases-walk_leaf
decreases-walk_leaf l = (31 - l.links) * 100000 + 20

abbrev pub decreases-walk_node : goal.decreases-walk_node
decreases-walk_node l = (31 - l.links) * 100000 + l.h * 300 + 50

abbrev pub invariant-walk_internode-loop-i : goal.invariant-walk_internode-loop-i
invariant-walk_internode-loop-i l =
    (l.n ≤ 15) × (length l.seen ≡ length l.initial.seen)
    × (each (walk_span (walk_node (refs_at (memory l.nodes l.cells l.bytes) l.above l.links) l.nodes l.h))
    (spans (left_of l.left) (right_of l.high) (drop l.i (ikeys_at l.nodes l.k)) (drop l.i (children_at l.nodes l.k))) l.seen
    ≡ walk_internode (walk_node (refs_at (memory l.nodes l.cells l.bytes) l.initial.above l.links) l.nodes l.h) l.nodes (left_of l.initial.left) (right_of l.high) l.k l.initial.seen)
    × (length l.above ≡ length l.initial.above) × (take l.links l.above ≡ take l.links l.initial.above)

abbrev pub invariant-walk_leaf-loop-i : goal.invariant-walk_leaf-loop-i
invariant-walk_leaf-loop-i l =
    (length l.seen ≡ length l.initial.seen)
    × (each (walk_entry (refs_at (memory l.nodes l.cells l.bytes) l.above l.links) (left_of l.low) (right_of l.high))
    (drop l.i (map seen_as (entries_at l.nodes l.k))) l.seen
    ≡ walk_leaf (refs_at (memory l.nodes l.cells l.bytes) l.initial.above l.links) l.nodes (left_of l.low) (right_of l.high) l.k l.initial.seen)
    × (length l.above ≡ length l.initial.above) × (take l.links l.above ≡ take l.links l.initial.above)
