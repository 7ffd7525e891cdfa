-- `leaf_entries::inside::are_of_kind` meets its contract. Assumes nothing.
use Prim.Native.Nat.{ℕ, ◌<◌}
use mathlib.Core.Path.{◌≡◌}
use mathlib.Core.Bool.{true}
use lib.ListN.{get_or}
use Rattle.leaf_entries.specs.Leaf.{none, entries_in_order, of_kind}
use Rattle.leaf_entries.proofs.inside.are_of_kind.Given as goal

abbrev pub invariant-loop-i : goal.invariant-loop-i
invariant-loop-i l =
    ((k : ℕ) → k < l.i → of_kind l.cells (get_or (entries_in_order l.word l.entries) k none) ≡ true)
