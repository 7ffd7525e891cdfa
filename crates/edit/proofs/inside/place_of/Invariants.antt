-- `edit::inside::place_of` meets its contract. Assumes nothing.
use Prim.Native.Nat.{◌≤◌}
use Rattle.edit.proofs.Internodes.{AboveFrom}
use Rattle.edit.proofs.inside.place_of.Given as goal

abbrev pub invariant-loop-j : goal.invariant-loop-j
invariant-loop-j l = (l.j ≤ l.x.n) × AboveFrom l.x l.ikey l.j

abbrev pub decreases-loop-j : goal.decreases-loop-j
decreases-loop-j l = l.j
