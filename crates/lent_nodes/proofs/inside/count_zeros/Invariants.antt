-- `inside::count_zeros` meets its contract: those found are the free ones among the numbers passed. Assumes nothing.
use Prim.Native.Nat.{◌≤◌}
use Rattle.lent_nodes.specs.Free.{is_free, every}
use Rattle.lent_nodes.proofs.Frees.{Counted}
use Rattle.lent_nodes.proofs.inside.count_zeros.Given as goal

abbrev pub invariant-loop-i : goal.invariant-loop-i
invariant-loop-i l = (l.found ≤ l.i) × Counted (is_free (every l.start l.step) l.words) l.n l.i l.found
