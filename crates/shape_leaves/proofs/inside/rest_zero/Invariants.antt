-- `shape_leaves::inside::rest_zero` meets its contract. The loop's invariant: nothing was found where the slots passed are zero.
-- Assumes nothing.
use Prim.Native.Nat.{◌+◌, ◌*◌, ◌/◌, ◌%◌, ◌-◌, ◌^◌}
use mathlib.Core.Path.{◌≡◌}
use lib.Dec.{eqb}
use lib.ListN.{take}
use Rattle.leaf.specs.Lists.{every}
use Rattle.forest.specs.Nodes.{rest_at, is_zero}
use Rattle.shape_leaves.proofs.inside.rest_zero.Given as goal

abbrev pub invariant-loop : goal.invariant-loop
invariant-loop l =
    (l.rest ≡ l.word / 2 ^ (4 * (l.counter + 1)))
    × (eqb l.found 0 ≡ every is_zero (take (l.counter - l.word % 16) (rest_at l.nodes l.k)))
