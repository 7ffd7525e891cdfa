-- `zeros::inside::bytes_zero` meets its contract. Assumes nothing.
use mathlib.Core.Path.{◌≡◌}
use lib.Dec.{eqb}
use Rattle.arena.specs.Parts.{part}
use Rattle.forest.specs.Nodes.{all_zero}
use Rattle.zeros.proofs.inside.bytes_zero.Given as goal

abbrev pub invariant-loop-i : goal.invariant-loop-i
invariant-loop-i l = eqb l.found 0 ≡ all_zero (part l.bytes l.at l.i)
