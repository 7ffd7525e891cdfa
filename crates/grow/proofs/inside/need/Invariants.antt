-- `grow::inside::need` meets its contract. Assumes nothing.
use Prim.Native.Nat.{◌+◌, ◌≤◌}
use mathlib.Core.Path.{◌≡◌}
use Rattle.model.specs.Needed.{need_in}
use Rattle.grow.proofs.inside.need.Given as goal

abbrev pub invariant-loop-h : goal.invariant-loop-h
invariant-loop-h l = (l.taken + l.h ≤ 256) × (need_in l.nodes l.height l.root l.ikey 1 ≡ need_in l.nodes l.h l.n l.ikey l.taken)

abbrev pub decreases-loop-h : goal.decreases-loop-h
decreases-loop-h l = l.h
