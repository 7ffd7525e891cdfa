-- `audit_seen::inside::nodes_free` meets its contract. Assumes nothing.
use mathlib.Core.Path.{◌≡◌}
use mathlib.Core.Bool.{true}
use Rattle.bank.specs.Lists.{all_below}
use Rattle.audit_seen.specs.Seen.{node_left}
use Rattle.audit_seen.proofs.inside.nodes_free.Given as goal

abbrev pub invariant-loop-k : goal.invariant-loop-k
invariant-loop-k l = all_below l.k (node_left l.nodes l.seen) ≡ true
