-- `store::inside::put_nodes` meets its contract. Assumes nothing.
use native.Mathlib.Omega.{arith}
use Rattle.seek.proofs.Seeks.{conflict-within, missing-within}
use Rattle.store.proofs.Writing.{lent-kept, lent-some, lent-few, put-stored-none, put-conflict, put-missing}
use Rattle.store.proofs.Writing.{rests-stored, rests-conflict, rests-missing}
use Rattle.store.proofs.inside.put_nodes.Goals as goal

pub make_link-holder-requires : goal.make_link-holder-requires
make_link-holder-requires c =
    let l = c.requires in
    let w = conflict-within _ _ l.place-within c.in-Conflict.is in
    (l.nodes-lent, w.0, w.1)

pub overflow_add-links : goal.overflow_add-links
overflow_add-links c =
    omega (arith, (conflict-within _ _ c.requires.place-within c.in-Conflict.is).2)

pub grow_layers-requires : goal.grow_layers-requires
grow_layers-requires c =
    let l = c.requires in
    let w = conflict-within _ _ l.place-within c.in-Conflict.is in
    (lent-kept _ _ _ l _ _ _ c.make_link-holder.ensures.0, lent-some _ _ _ l, lent-few _ _ _ l, omega (arith, w.2))

pub entry_for-e-requires : goal.entry_for-e-requires
entry_for-e-requires c =
    missing-within _ _ c.requires.place-within c.in-Missing.is

pub returns-in-Stored : goal.returns-in-Stored
returns-in-Stored c = (search put-stored-none, search rests-stored)

pub returns-in-Conflict : goal.returns-in-Conflict
returns-in-Conflict c = (search put-conflict, search rests-conflict)

pub returns-in-Missing : goal.returns-in-Missing
returns-in-Missing c = (search put-missing, search rests-missing)
