-- `seek::inside::leaf_for` meets its contract. Assumes nothing.
use mathlib.Core.Path.{◌≡◌}
use Rattle.model.specs.Down.{leaf_for}
use Rattle.seek.proofs.inside.leaf_for.Given as goal

abbrev pub invariant-loop-h : goal.invariant-loop-h
invariant-loop-h l = leaf_for l.nodes l.height l.node l.ikey ≡ leaf_for l.nodes l.h l.n l.ikey

abbrev pub decreases-loop-h : goal.decreases-loop-h
decreases-loop-h l = l.h
