-- `nodes_cut::inside::cut` meets its contract. Assumes nothing.
use Prim.Native.Nat.{◌-◌}
use mathlib.Core.Path.{◌≡◌}
use Rattle.leaf.specs.Cut.{differs, outward, cut_of}
use Rattle.nodes_cut.proofs.inside.cut.Given as goal

abbrev pub invariant-loop-far : goal.invariant-loop-far
invariant-loop-far l = cut_of l.entries ≡ outward (differs l.entries) 8 l.far (8 - l.far)
