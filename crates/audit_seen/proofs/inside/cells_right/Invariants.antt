-- `audit_seen::inside::cells_right` meets its contract. Assumes nothing.
use Prim.Native.Nat.{◌≤◌}
use mathlib.Core.Path.{◌≡◌}
use mathlib.Core.Bool.{true}
use Rattle.bank.specs.Lists.{all_below}
use Rattle.forest.specs.Count.{how_many}
use Rattle.audit_seen.specs.Seen.{cell_left, cell_seen}
use Rattle.audit_seen.proofs.inside.cells_right.Given as goal

abbrev pub invariant-loop-k : goal.invariant-loop-k
invariant-loop-k l =
    (all_below l.k (cell_left l.cells l.bytes l.seen) ≡ true) × (l.many ≤ l.k) × (l.many ≡ how_many l.k (cell_seen l.seen))
