-- `index_remove::remove` meets its contract. Assumes nothing.
use native.Mathlib.Omega.{arith}
use borrow.Author.Tests.{not-true, not-false}
use borrow.Author.Rules.{rules}
use Rattle.index_remove.proofs.Lent.{tree-root, tree-seek, stored-entry, stored-cell, still-lent}
use Rattle.index_remove.proofs.Removing.{remove-long, remove-unfit, remove-none, remove-done}
use Rattle.index_remove.proofs.remove.Goals as goal

pub returns-then-key-gt-LONGEST : goal.returns-then-key-gt-LONGEST
returns-then-key-gt-LONGEST c = search remove-long

pub returns-then-not-is_tree : goal.returns-then-not-is_tree
returns-then-not-is_tree c =
    remove-unfit _ _ _ _ c.if-key-gt-LONGEST.false c.is_tree.ensures
    (not-true _ c.if-not-is_tree.true-raw)

pub slice_reshared_read-seek : goal.slice_reshared_read-seek
slice_reshared_read-seek c =
    tree-root _ _ _ c.is_tree.ensures (not-false _ c.if-not-is_tree.false-raw)

pub seek-met-requires : goal.seek-met-requires
seek-met-requires c =
    let h = tree-seek _ _ _ c.is_tree.ensures (not-false _ c.if-not-is_tree.false-raw) c.if-key-gt-LONGEST.false in
    record { nodes_lent = h.0; key_len_bound = h.1 }

pub take_counted-requires : goal.take_counted-requires
take_counted-requires c =
    let w =
    stored-entry _ _ _ c.is_tree.ensures (not-false _ c.if-not-is_tree.false-raw) c.seek-met.ensures.within
    c.in-Stored.is in
    omega arith

pub free_cell-requires : goal.free_cell-requires
free_cell-requires c =
    let w =
    stored-cell _ _ _ c.is_tree.ensures (not-false _ c.if-not-is_tree.false-raw) c.seek-met.ensures.within
    c.in-Stored.is in
    omega arith

pub give_back-requires : goal.give_back-requires
give_back-requires c =
    let tree = c.is_tree.ensures in
    let good = not-false _ c.if-not-is_tree.false-raw in
    let short = c.if-key-gt-LONGEST.false in
    let (lent, rest) = tree-seek _ _ _ tree good short in
    let (n, l) = still-lent _ _ _ _ _ _ _ lent.0 lent.1
    (stored-cell _ _ _ tree good c.seek-met.ensures.within c.in-Stored.is)
    c.take_counted.ensures c.free_cell.ensures.0 c.free_cell.ensures.1 in
    (n, l, short)

pub returns-in-Stored : goal.returns-in-Stored
returns-in-Stored c =
    remove-done _ _ _ _ c.if-key-gt-LONGEST.false c.is_tree.ensures (not-false _ c.if-not-is_tree.false-raw) _
    c.seek-met.ensures.value c.in-Stored.is c.take_counted.ensures c.free_cell.ensures.0
    c.free_cell.ensures.1 c.give_back.ensures

pub returns : goal.returns
returns c =
    remove-none _ _ _ _ c.if-key-gt-LONGEST.false c.is_tree.ensures
    (not-false _ c.if-not-is_tree.false-raw) _ c.seek-met.ensures.value (search rules)
