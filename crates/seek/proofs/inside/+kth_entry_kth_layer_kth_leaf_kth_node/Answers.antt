-- `seek::inside::kth_layer` and the steps of its walk meet their contracts: a cycle of four. What falls is the number of links that
-- may still follow, and in a layer the height. Assumes nothing.
use Prim.Native.Nat.{◌-◌}
use borrow.Author.Rules.{rules}
use Rattle.seek.proofs.Reaches.{reaches}
use Rattle.seek.proofs.inside.+kth_entry_kth_layer_kth_leaf_kth_node.Goals as goal

pub kth_entry-returns-then-links-eq31 : goal.kth_entry-returns-then-links-eq31
kth_entry-returns-then-links-eq31 t c = search reaches

pub kth_entry-overflow_add-links : goal.kth_entry-overflow_add-links
kth_entry-overflow_add-links t c = search reaches

pub kth_entry-kth_layer-requires : goal.kth_entry-kth_layer-requires
kth_entry-kth_layer-requires t c = search reaches

pub kth_entry-returns-then-e-eq10 : goal.kth_entry-returns-then-e-eq10
kth_entry-returns-then-e-eq10 t c = search reaches

pub kth_entry-returns-then-k-eq0 : goal.kth_entry-returns-then-k-eq0
kth_entry-returns-then-k-eq0 t c = search reaches

pub kth_entry-overflow_sub-result : goal.kth_entry-overflow_sub-result
kth_entry-overflow_sub-result t c = search reaches

pub kth_entry-returns : goal.kth_entry-returns
kth_entry-returns t c = search reaches

pub kth_layer-height_of-height-requires : goal.kth_layer-height_of-height-requires
kth_layer-height_of-height-requires t c = search reaches

pub kth_layer-kth_node-requires : goal.kth_layer-kth_node-requires
kth_layer-kth_node-requires t c = search reaches

pub kth_layer-returns : goal.kth_layer-returns
kth_layer-returns t c = search reaches

pub kth_leaf-word_of-word-requires : goal.kth_leaf-word_of-word-requires
kth_leaf-word_of-word-requires t c = search reaches

pub kth_leaf-size_of-size-requires : goal.kth_leaf-size_of-size-requires
kth_leaf-size_of-size-requires t c = search reaches

pub kth_leaf-loop-i-init : goal.kth_leaf-loop-i-init
kth_leaf-loop-i-init t c = (search rules, search reaches)

pub kth_leaf-slot_of-slot-requires : goal.kth_leaf-slot_of-slot-requires
kth_leaf-slot_of-slot-requires t c = search reaches

pub kth_leaf-entry_of-e-requires : goal.kth_leaf-entry_of-e-requires
kth_leaf-entry_of-e-requires t c = search reaches

pub kth_leaf-kth_entry-reached-requires : goal.kth_leaf-kth_entry-reached-requires
kth_leaf-kth_entry-reached-requires t c = search reaches

pub kth_leaf-enum_known-reached : goal.kth_leaf-enum_known-reached
kth_leaf-enum_known-reached t c = search reaches

pub kth_leaf-returns-in-Here : goal.kth_leaf-returns-in-Here
kth_leaf-returns-in-Here t c = search reaches

pub kth_leaf-enum_known-reached-in-Beyond-1 : goal.kth_leaf-enum_known-reached-in-Beyond-1
kth_leaf-enum_known-reached-in-Beyond-1 t c = search reaches

pub kth_leaf-overflow_add-i : goal.kth_leaf-overflow_add-i
kth_leaf-overflow_add-i t c = search reaches

pub kth_leaf-loop-i-smaller : goal.kth_leaf-loop-i-smaller
kth_leaf-loop-i-smaller t c = search reaches

pub kth_leaf-loop-i-preserved : goal.kth_leaf-loop-i-preserved
kth_leaf-loop-i-preserved t c = (search rules, search reaches)

pub kth_leaf-returns : goal.kth_leaf-returns
kth_leaf-returns t c = search reaches

pub kth_node-kth_leaf-requires : goal.kth_node-kth_leaf-requires
kth_node-kth_leaf-requires t c = search reaches

pub kth_node-returns-then-height-eq0 : goal.kth_node-returns-then-height-eq0
kth_node-returns-then-height-eq0 t c = search reaches

pub kth_node-children_of-many-requires : goal.kth_node-children_of-many-requires
kth_node-children_of-many-requires t c = search reaches

pub kth_node-loop-i-init : goal.kth_node-loop-i-init
kth_node-loop-i-init t c = (search rules, search reaches)

pub kth_node-child_at-child-requires : goal.kth_node-child_at-child-requires
kth_node-child_at-child-requires t c = search reaches

pub kth_node-overflow_sub-height : goal.kth_node-overflow_sub-height
kth_node-overflow_sub-height t c = search reaches

pub kth_node-kth_node-reached-requires : goal.kth_node-kth_node-reached-requires
kth_node-kth_node-reached-requires t c = search reaches

pub kth_node-enum_known-reached : goal.kth_node-enum_known-reached
kth_node-enum_known-reached t c = search reaches

pub kth_node-returns-in-Here : goal.kth_node-returns-in-Here
kth_node-returns-in-Here t c = search reaches

pub kth_node-enum_known-reached-in-Beyond-1 : goal.kth_node-enum_known-reached-in-Beyond-1
kth_node-enum_known-reached-in-Beyond-1 t c = search reaches

pub kth_node-overflow_add-i : goal.kth_node-overflow_add-i
kth_node-overflow_add-i t c = search reaches

pub kth_node-loop-i-smaller : goal.kth_node-loop-i-smaller
kth_node-loop-i-smaller t c = search reaches

pub kth_node-loop-i-preserved : goal.kth_node-loop-i-preserved
kth_node-loop-i-preserved t c = (search rules, search reaches)

pub kth_node-returns : goal.kth_node-returns
kth_node-returns t c = search reaches
