-- `audit_seen::inside::nodes_free` meets its contract. Assumes nothing.
use Rattle.audit_seen.proofs.Rests.{lefts}
use Rattle.audit_seen.proofs.inside.nodes_free.Goals as goal

pub loop-k-init : goal.loop-k-init
loop-k-init c = search lefts

pub overflow_mul-k : goal.overflow_mul-k
overflow_mul-k c = search lefts

pub bounds-seen-k : goal.bounds-seen-k
bounds-seen-k c = search lefts

pub loop-k-preserved-then-seen-k-eq1 : goal.loop-k-preserved-then-seen-k-eq1
loop-k-preserved-then-seen-k-eq1 c = search lefts

pub node_free-requires : goal.node_free-requires
node_free-requires c = search lefts

pub returns-then-not-node_free : goal.returns-then-not-node_free
returns-then-not-node_free c = search lefts

pub loop-k-preserved : goal.loop-k-preserved
loop-k-preserved c = search lefts

pub returns : goal.returns
returns c = search lefts
