-- `index_put::inside::put_lent` meets its contract. Assumes nothing.
use borrow.Author.Tests.{not-true, not-false}
use borrow.Author.Rules.{rules}
use Rattle.index_put.proofs.Adds.{lents, lent-many, lent-seek, lent-stored, lent-no-cell, lent-few-nodes, lent-new}
use Rattle.index_put.proofs.inside.put_lent.Goals as goal

pub bounds-nodes-1 : goal.bounds-nodes-1
bounds-nodes-1 c = search lents

pub returns-then-nodes : goal.returns-then-nodes
returns-then-nodes c = search lent-many

pub slice_reshared_read-seek : goal.slice_reshared_read-seek
slice_reshared_read-seek c = search lents

pub seek-met-requires : goal.seek-met-requires
seek-met-requires c =
    let h = lent-seek _ _ _ c.requires.0 c.requires.1 in record { nodes_lent = h.0; key_len_bound = h.1 }

pub returns-in-Stored : goal.returns-in-Stored
returns-in-Stored c =
    lent-stored _ _ _ _ _ c.if-nodes.false _ c.seek-met.ensures.value c.in-Stored.is

pub returns-then-not-has_cell : goal.returns-then-not-has_cell
returns-then-not-has_cell c =
    lent-no-cell _ _ _ _ _ c.if-nodes.false _ c.seek-met.ensures.value (search rules)
    c.has_cell.ensures (not-true _ c.if-not-has_cell.true-raw)

pub lacking-lacking-requires : goal.lacking-lacking-requires
lacking-lacking-requires c = search lents

pub returns-then-lacking-gt0 : goal.returns-then-lacking-gt0
returns-then-lacking-gt0 c =
    lent-few-nodes _ _ _ _ _ c.if-nodes.false _ c.seek-met.ensures.value (search rules)
    c.has_cell.ensures (not-false _ c.if-not-has_cell.false-raw) c.lacking-lacking.ensures c.if-lacking-gt0.true

pub put_counted-resting-requires : goal.put_counted-resting-requires
put_counted-resting-requires c = (search lents, search rules, search rules)

pub returns : goal.returns
returns c =
    lent-new _ _ _ _ _ c.if-nodes.false _ c.seek-met.ensures.value (search rules)
    c.has_cell.ensures (not-false _ c.if-not-has_cell.false-raw) c.lacking-lacking.ensures c.if-lacking-gt0.false
    c.put_counted-resting.ensures.0
    c.put_counted-resting.ensures.1
