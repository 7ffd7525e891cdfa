-- The walk meets its contracts: layer walk calls node walk, which calls layer walk at a link. What falls is the links that may yet follow,
-- and
-- within a layer the height that is left. Assumes nothing.
use borrow.Author.Rules.{rules}
use Prim.Native.Nat.{◌-◌}
use mathlib.Core.Path.{◌∙◌}
use Rattle.walk.proofs.Steps.{entrywise, leafwise, interwise, nodewise, layerwise, leaf-out, leaf-fails, leaf-next, entries-on}
use Rattle.walk.proofs.Steps.{inter-out, inter-fails, inter-next, spans_on, height-few, count-15}
use native.Mathlib.Omega.{arith}
use borrow.Author.Tests.{not-true, not-false}
use Rattle.walk.proofs.inside.+walk_entry_walk_internode_walk_layer_walk_leaf_walk_node.Goals as goal

pub walk_entry-returns-then-e-ne10 : goal.walk_entry-returns-then-e-ne10
walk_entry-returns-then-e-ne10 t c = search entrywise

pub walk_entry-returns-then-links-eq31 : goal.walk_entry-returns-then-links-eq31
walk_entry-returns-then-links-eq31 t c = search entrywise

pub walk_entry-returns : goal.walk_entry-returns
walk_entry-returns t c = search entrywise

pub walk_internode-returns-then-not-internode_right : goal.walk_internode-returns-then-not-internode_right
walk_internode-returns-then-not-internode_right t c = search interwise

pub walk_internode-overflow_add-i-end : goal.walk_internode-overflow_add-i-end
walk_internode-overflow_add-i-end t c =
    let few = count-15 _ _ c.internode_right.ensures (not-false _ c.if-not-internode_right.false-raw) in omega (arith, few)

pub walk_internode-loop-i-init : goal.walk_internode-loop-i-init
walk_internode-loop-i-init t c = search interwise

pub walk_internode-returns-then-not-is_between-clause-seen_after : goal.walk_internode-returns-then-not-is_between-clause-seen_after
walk_internode-returns-then-not-is_between-clause-seen_after t c = inter-out _ _ _ _ _ _ _ c.loop-i.invariant.2
    c.internode_right.ensures
    (not-false _ c.if-not-internode_right.false-raw)
    c.requires.k_in_bounds
    (omega (arith, c.loop-i-test.true)) c.right_edge-right.ensures c.is_between.ensures (not-true _ c.if-not-is_between.true-raw)

pub walk_internode-returns-then-not-is_between-clause-above_unchanged : goal.walk_internode-returns-then-not-is_between-clause-above_unchanged
walk_internode-returns-then-not-is_between-clause-above_unchanged t c = c.loop-i.invariant.4

pub walk_internode-returns-then-not-walk_node-clause-seen_after : goal.walk_internode-returns-then-not-walk_node-clause-seen_after
walk_internode-returns-then-not-walk_node-clause-seen_after t c = inter-fails _ _ _ _ _ _ _ c.loop-i.invariant.2
    c.internode_right.ensures
    (not-false _ c.if-not-internode_right.false-raw)
    c.requires.k_in_bounds
    (omega (arith, c.loop-i-test.true)) c.right_edge-right.ensures c.is_between.ensures
    (not-false _ c.if-not-is_between.false-raw) _ c.walk_node.ensures.seen_after (not-true _ c.if-not-walk_node.true-raw)

pub walk_internode-returns-then-not-walk_node-clause-above_unchanged : goal.walk_internode-returns-then-not-walk_node-clause-above_unchanged
walk_internode-returns-then-not-walk_node-clause-above_unchanged t c = c.walk_node.ensures.above_unchanged ∙ c.loop-i.invariant.4

pub walk_internode-loop-i-preserved : goal.walk_internode-loop-i-preserved
walk_internode-loop-i-preserved t c = (
  search rules,
  search rules,
  spans_on _ _ _ _ c.walk_node.ensures.above_unchanged _ _ _ _
      (inter-next _ _ _ _ _ _ _ c.loop-i.invariant.2
      c.internode_right.ensures
      (not-false _ c.if-not-internode_right.false-raw)
      c.requires.k_in_bounds
      (omega (arith, c.loop-i-test.true)) c.right_edge-right.ensures c.is_between.ensures
      (not-false _ c.if-not-is_between.false-raw) _ c.walk_node.ensures.seen_after (not-false _ c.if-not-walk_node.false-raw)),
  search rules,
  c.walk_node.ensures.above_unchanged ∙ c.loop-i.invariant.4,
)

pub walk_internode-returns : goal.walk_internode-returns
walk_internode-returns t c = search interwise

pub walk_layer-walk_node-requires : goal.walk_layer-walk_node-requires
walk_layer-walk_node-requires t c = (omega (arith, height-few _ _ c.height-h.ensures), search rules)

pub walk_layer-returns : goal.walk_layer-returns
walk_layer-returns t c = search layerwise

pub walk_leaf-returns-then-not-leaf_right : goal.walk_leaf-returns-then-not-leaf_right
walk_leaf-returns-then-not-leaf_right t c = search leafwise

pub walk_leaf-loop-i-init : goal.walk_leaf-loop-i-init
walk_leaf-loop-i-init t c = search leafwise

pub walk_leaf-slot_at-slot-requires : goal.walk_leaf-slot_at-slot-requires
walk_leaf-slot_at-slot-requires t c = search leafwise

pub walk_leaf-returns-then-not-is_within-clause-seen_after : goal.walk_leaf-returns-then-not-is_within-clause-seen_after
walk_leaf-returns-then-not-is_within-clause-seen_after t c = leaf-out _ _ _ _ _ _ _ c.loop-i.invariant.1
    c.size_of-size.ensures c.loop-i-test.true
    c.slot_at-slot.ensures.0
    c.entry_at-e.ensures c.is_within.ensures (not-true _ c.if-not-is_within.true-raw)

pub walk_leaf-returns-then-not-is_within-clause-above_unchanged : goal.walk_leaf-returns-then-not-is_within-clause-above_unchanged
walk_leaf-returns-then-not-is_within-clause-above_unchanged t c = c.loop-i.invariant.3

pub walk_leaf-returns-then-not-walk_entry-clause-seen_after : goal.walk_leaf-returns-then-not-walk_entry-clause-seen_after
walk_leaf-returns-then-not-walk_entry-clause-seen_after t c = leaf-fails _ _ _ _ _ _ _ c.loop-i.invariant.1
    c.size_of-size.ensures c.loop-i-test.true
    c.slot_at-slot.ensures.0
    c.entry_at-e.ensures c.is_within.ensures (not-false _ c.if-not-is_within.false-raw) _
    c.walk_entry.ensures.seen_after (not-true _ c.if-not-walk_entry.true-raw)

pub walk_leaf-returns-then-not-walk_entry-clause-above_unchanged : goal.walk_leaf-returns-then-not-walk_entry-clause-above_unchanged
walk_leaf-returns-then-not-walk_entry-clause-above_unchanged t c = c.walk_entry.ensures.above_unchanged ∙ c.loop-i.invariant.3

pub walk_leaf-loop-i-preserved : goal.walk_leaf-loop-i-preserved
walk_leaf-loop-i-preserved t c = (
  search rules,
  entries-on _ _ _ _ c.walk_entry.ensures.above_unchanged _ _ _ _
      (leaf-next _ _ _ _ _ _ _ c.loop-i.invariant.1
      c.size_of-size.ensures c.loop-i-test.true
      c.slot_at-slot.ensures.0
      c.entry_at-e.ensures c.is_within.ensures (not-false _ c.if-not-is_within.false-raw) _
      c.walk_entry.ensures.seen_after (not-false _ c.if-not-walk_entry.false-raw)),
  search rules,
  c.walk_entry.ensures.above_unchanged ∙ c.loop-i.invariant.3,
)

pub walk_leaf-returns : goal.walk_leaf-returns
walk_leaf-returns t c = search leafwise

pub walk_node-returns-then-nodes-n : goal.walk_node-returns-then-nodes-n
walk_node-returns-then-nodes-n t c = search nodewise

pub walk_node-returns-then-not-see_number : goal.walk_node-returns-then-not-see_number
walk_node-returns-then-not-see_number t c = search nodewise

pub walk_node-returns-then-h-eq0 : goal.walk_node-returns-then-h-eq0
walk_node-returns-then-h-eq0 t c = search nodewise

pub walk_node-returns : goal.walk_node-returns
walk_node-returns t c = search nodewise
