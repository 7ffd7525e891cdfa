-- `grow::inside::layers` meets its contract. Assumes nothing.
use Prim.Native.Nat.{◌+◌, ◌-◌, ◌≤◌}
use mathlib.Core.Path.{◌≡◌}
use Rattle.model.specs.Needed.{layers_of}
use Rattle.grow.proofs.inside.layers.Given as goal

abbrev pub invariant-loop-at : goal.invariant-loop-at
invariant-loop-at l =
    (l.at ≤ 32) × (l.made ≤ l.at + 1) × (layers_of (31 - l.links) l.key l.other l.links + 1 ≡ l.made + layers_of (31 - l.at) l.key l.other l.at)

abbrev pub decreases-loop-at : goal.decreases-loop-at
decreases-loop-at l = 31 - l.at
