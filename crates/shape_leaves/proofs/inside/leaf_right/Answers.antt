-- `shape_leaves::inside::leaf_right` meets its contract. Assumes nothing.
use borrow.Author.Rules.{rules}
use Rattle.shape_leaves.proofs.Leaves.{leaves, told-valid}
use Rattle.shape_leaves.proofs.inside.leaf_right.Goals as goal

pub returns-then-nodes-k-ne-LEAF : goal.returns-then-nodes-k-ne-LEAF
returns-then-nodes-k-ne-LEAF c = search leaves

pub returns-then-not-is_valid : goal.returns-then-not-is_valid
returns-then-not-is_valid c = search leaves

pub entries_of_class-requires : goal.entries_of_class-requires
entries_of_class-requires c = search (rules, told-valid)

pub returns-then-not-entries_of_class : goal.returns-then-not-entries_of_class
returns-then-not-entries_of_class c = search leaves

pub entries_rising-requires : goal.entries_rising-requires
entries_rising-requires c = search (rules, told-valid)

pub returns-then-not-entries_rising : goal.returns-then-not-entries_rising
returns-then-not-entries_rising c = search leaves

pub rest_zero-requires : goal.rest_zero-requires
rest_zero-requires c = search (rules, told-valid)

pub returns : goal.returns
returns c = search leaves
