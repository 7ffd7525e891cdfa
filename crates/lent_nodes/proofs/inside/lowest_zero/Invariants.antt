-- `inside::lowest_zero` meets its contract: none of the numbers passed is free. Assumes nothing.
use Rattle.lent_nodes.specs.Free.{is_free, every}
use Rattle.lent_nodes.proofs.Frees.{Passed}
use Rattle.lent_nodes.proofs.inside.lowest_zero.Given as goal

abbrev pub invariant-loop-i : goal.invariant-loop-i
invariant-loop-i l = Passed (is_free (every l.start l.step) l.words) l.n l.i
