-- `shape_cells::inside::is_under` meets its contract. Assumes nothing.
use Prim.Native.Nat.{◌*◌}
use mathlib.Core.Path.{◌≡◌}
use lib.ListN.{take, drop}
use Rattle.forest.specs.Cells.{under}
use Rattle.shape_cells.proofs.inside.is_under.Given as goal

abbrev pub invariant-loop-i : goal.invariant-loop-i
invariant-loop-i l = under l.key 0 (take l.links l.above) ≡ under l.key (8 * l.i) (drop l.i (take l.links l.above))
