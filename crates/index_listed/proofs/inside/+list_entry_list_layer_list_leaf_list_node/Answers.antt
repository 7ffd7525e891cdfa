-- The walk that notes the cells of a layer, a node, a leaf and an entry meets its contracts. Assumes nothing.
use borrow.Author.Rules.{rules}
use Prim.Native.Nat.{◌-◌}
use Rattle.index_listed.proofs.Notes.{notes}
use Rattle.index_listed.proofs.inside.+list_entry_list_layer_list_leaf_list_node.Goals as goal

pub list_entry-returns-then-links-eq31 : goal.list_entry-returns-then-links-eq31
list_entry-returns-then-links-eq31 t c = search notes

pub list_entry-overflow_add-links : goal.list_entry-overflow_add-links
list_entry-overflow_add-links t c = search notes

pub list_entry-list_layer-requires : goal.list_entry-list_layer-requires
list_entry-list_layer-requires t c = search notes

pub list_entry-shape_of-order-then-e-eq10 : goal.list_entry-shape_of-order-then-e-eq10
list_entry-shape_of-order-then-e-eq10 t c = search notes

pub list_entry-returns-then-e-eq10 : goal.list_entry-returns-then-e-eq10
list_entry-returns-then-e-eq10 t c = search notes

pub list_entry-note-requires : goal.list_entry-note-requires
list_entry-note-requires t c = search notes

pub list_entry-shape_of-order : goal.list_entry-shape_of-order
list_entry-shape_of-order t c = search notes

pub list_entry-returns : goal.list_entry-returns
list_entry-returns t c = search notes

pub list_layer-height_of-height-requires : goal.list_layer-height_of-height-requires
list_layer-height_of-height-requires t c = search notes

pub list_layer-list_node-requires : goal.list_layer-list_node-requires
list_layer-list_node-requires t c = search notes

pub list_layer-shape_of-order : goal.list_layer-shape_of-order
list_layer-shape_of-order t c = search notes

pub list_layer-returns : goal.list_layer-returns
list_layer-returns t c = search notes

pub list_leaf-word_of-word-requires : goal.list_leaf-word_of-word-requires
list_leaf-word_of-word-requires t c = search notes

pub list_leaf-loop-i-init : goal.list_leaf-loop-i-init
list_leaf-loop-i-init t c = (search rules, search rules, search notes)

pub list_leaf-slot_of-slot-requires : goal.list_leaf-slot_of-slot-requires
list_leaf-slot_of-slot-requires t c = search notes

pub list_leaf-overflow_add-i : goal.list_leaf-overflow_add-i
list_leaf-overflow_add-i t c = search notes

pub list_leaf-entry_of-e-requires : goal.list_leaf-entry_of-e-requires
list_leaf-entry_of-e-requires t c = search notes

pub list_leaf-list_entry-to-requires : goal.list_leaf-list_entry-to-requires
list_leaf-list_entry-to-requires t c = search notes

pub list_leaf-loop-i-smaller : goal.list_leaf-loop-i-smaller
list_leaf-loop-i-smaller t c = search notes

pub list_leaf-loop-i-preserved : goal.list_leaf-loop-i-preserved
list_leaf-loop-i-preserved t c = (search rules, search rules, search notes)

pub list_leaf-shape_of-order : goal.list_leaf-shape_of-order
list_leaf-shape_of-order t c = search notes

pub list_leaf-returns : goal.list_leaf-returns
list_leaf-returns t c = search notes

pub list_node-list_leaf-requires : goal.list_node-list_leaf-requires
list_node-list_leaf-requires t c = search notes

pub list_node-shape_of-order-then-height-eq0 : goal.list_node-shape_of-order-then-height-eq0
list_node-shape_of-order-then-height-eq0 t c = search notes

pub list_node-returns-then-height-eq0 : goal.list_node-returns-then-height-eq0
list_node-returns-then-height-eq0 t c = search notes

pub list_node-children_of-many-requires : goal.list_node-children_of-many-requires
list_node-children_of-many-requires t c = search notes

pub list_node-loop-i-init : goal.list_node-loop-i-init
list_node-loop-i-init t c = (search rules, search rules, search notes)

pub list_node-child_at-child-requires : goal.list_node-child_at-child-requires
list_node-child_at-child-requires t c = search notes

pub list_node-overflow_add-i : goal.list_node-overflow_add-i
list_node-overflow_add-i t c = search notes

pub list_node-overflow_sub-height : goal.list_node-overflow_sub-height
list_node-overflow_sub-height t c = search notes

pub list_node-list_node-to-requires : goal.list_node-list_node-to-requires
list_node-list_node-to-requires t c = search notes

pub list_node-loop-i-smaller : goal.list_node-loop-i-smaller
list_node-loop-i-smaller t c = search notes

pub list_node-loop-i-preserved : goal.list_node-loop-i-preserved
list_node-loop-i-preserved t c = (search rules, search rules, search notes)

pub list_node-shape_of-order : goal.list_node-shape_of-order
list_node-shape_of-order t c = search notes

pub list_node-returns : goal.list_node-returns
list_node-returns t c = search notes
