-- `leaf::inside::scan` meets its contract. Assumes nothing.
use Prim.Native.Nat.{Ordering}
use Prim.Native.Nat.{ℕ, ◌*◌, ◌<◌}
use mathlib.Core.Path.{◌≡◌}
use lib.ListN.{get_or}
use Rattle.order.specs.Layer.{class_at}
use Rattle.leaf.specs.Leaf.{none, entries_in_order, against}
use Rattle.leaf.proofs.inside.scan.Given as goal

abbrev pub invariant-loop-i : goal.invariant-loop-i
invariant-loop-i l =
    ((k : ℕ) → k < l.i → against l.ikey (class_at l.key (8 * l.shift_count)) (get_or (entries_in_order l.word l.entries) k none) ≡ Ordering.gt)
