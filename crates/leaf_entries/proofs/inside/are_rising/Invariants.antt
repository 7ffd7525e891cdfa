-- `leaf_entries::inside::are_rising` meets its contract. Assumes nothing.
use Prim.Native.Nat.{ℕ, ◌-◌, ◌≤◌, ◌<◌}
use mathlib.Core.Path.{◌≡◌}
use mathlib.Core.Bool.{true}
use lib.ListN.{get_or}
use Rattle.leaf_entries.specs.Leaf.{none, entries_in_order, less}
use Rattle.leaf_entries.proofs.inside.are_rising.Given as goal

abbrev pub invariant-loop-i : goal.invariant-loop-i
invariant-loop-i l =
    ((j : ℕ) → j < l.i → 1 ≤ j → less (get_or (entries_in_order l.word l.entries) (j - 1) none) (get_or (entries_in_order l.word l.entries) j none) ≡ true)
