-- `shape::inside::height` meets its contract. Assumes nothing.
use Prim.Native.Nat.{◌+◌, ◌-◌}
use mathlib.Core.Path.{◌≡◌}
use Rattle.forest.specs.Walk.{height_at}
use Rattle.shape.proofs.inside.height.Given as goal

abbrev pub invariant-loop-h : goal.invariant-loop-h
invariant-loop-h l = height_at l.nodes 255 l.root ≡ l.h + height_at l.nodes (255 - l.h) l.n
