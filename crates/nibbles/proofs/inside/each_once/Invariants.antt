-- `inside::each_once` meets its contract. The loop's invariant: the marks are those of the nibbles passed, and some are left.
-- Assumes nothing.
use Prim.Native.Nat.{◌<◌}
use Rattle.nibbles.proofs.Marks.{Halves}
use Rattle.nibbles.proofs.inside.each_once.Given as goal

abbrev pub invariant-loop-high : goal.invariant-loop-high
invariant-loop-high l = Halves l.x l.marks l.low l.high × (0 < l.high)

abbrev pub decreases-loop-high : goal.decreases-loop-high
decreases-loop-high l = l.high
