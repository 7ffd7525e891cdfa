-- `audit_seen::inside::rest_right` meets its contract. Assumes nothing.
use Rattle.audit_seen.proofs.Rests.{rests}
use Rattle.audit_seen.proofs.inside.rest_right.Goals as goal

pub returns-then-not-nodes_free : goal.returns-then-not-nodes_free
returns-then-not-nodes_free c = search rests

pub bounds-nodes-1 : goal.bounds-nodes-1
bounds-nodes-1 c = search rests

pub returns : goal.returns
returns c = search rests
