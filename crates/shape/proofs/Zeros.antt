-- The test of a node for nothing but zeros. Assumes nothing.
use Prim.Native.Nat.{ℕ, ◌+◌, ◌*◌}
use mathlib.Core.Path.{◌≡◌}
use mathlib.Core.Bool.{Bool}
use mathlib.Core.List.{List}
use Rattle.arena.specs.Parts.{part}
use Rattle.forest.specs.Nodes.{all_zero, node_free}

pub free-node : (nodes : List ℕ) (k : ℕ) {r : Bool} → r ≡ all_zero (part nodes (2 + k * 47) 47) → r ≡ node_free nodes k
unfolding node_free
free-node nodes k e = e
