-- `inside::sorted` meets its contract. The loop's invariant: so many slots stand in place. Assumes nothing.
use mathlib.Core.Path.{◌≡◌}
use Rattle.wide_moves.proofs.Moves.{begun}
use Rattle.wide_moves.proofs.inside.sorted.Given as goal

abbrev pub invariant-loop-k : goal.invariant-loop-k
invariant-loop-k l = l.out ≡ begun l.width l.n l.k
