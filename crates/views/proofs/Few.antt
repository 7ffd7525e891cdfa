-- A tree lists no more keys than there are cells, and each of its keys has 256 bytes at most. Assumes nothing.
use mathlib.Core.Path.{◌≡◌, sym, ap, ◌∙◌}
use mathlib.Core.List.{List}
use Prim.Native.Nat.{ℕ, ◌-◌, ◌≤◌}
use native.Mathlib.Omega.{arith}
use lib.ListN.{length, length-map, length-take}
use Rattle.order.specs.Map.{All}
use Rattle.order.proofs.Map.{all_map}
use Rattle.arena.specs.Parts.{part}
use Rattle.arena.specs.Layout.{key_at, key_start, mark_at}
use Rattle.arena.specs.Memory.{Memory, cell_count}
use Rattle.forest.specs.IsTree.{Layers, Forest, listing}
use Rattle.forest.proofs.Counts.{few-listed}
use Rattle.model.specs.Calls.{in_key_order}
use Rattle.views.proofs.Nodes.{right-mark}
use Rattle.views.proofs.Whole.{lengths}
use Rattle.views.proofs.Listed.{key_and_frame, cells-listed, cells_right}

-- ---- a part of n words has n at most

part-short : (xs : List ℕ) (at n : ℕ) → length (part xs at n) ≤ n
unfolding part
part-short xs at n = rw length-take (omega arith)

-- ---- the whole

module _ (m : Memory) (v : Layers) (t : Forest m v) where
  -- as many cells are met in key order as the listing has entries
  pub in-order-listed : length (in_key_order m) ≡ length (listing m v)
  in-order-listed = sym (length-map (in_key_order m) (key_and_frame m.cells m.bytes)) ∙ ap length (cells-listed m v t)

  pub few-in-order : length (in_key_order m) ≤ cell_count (length m.cells)
  few-in-order = omega (arith, in-order-listed, few-listed m v t)

  pub few-255 : length (in_key_order m) ≤ 255
  few-255 = omega (arith, few-in-order, (lengths m t.lent).c-high)

  -- no key is longer than 256 bytes
  pub keys-short : All (λ c. length (key_at m.cells m.bytes c) ≤ 256) (in_key_order m)
  keys-short =
      all_map (λ c r. omega (
        arith,
        (right-mark m.cells m.bytes c r).1,
        part-short m.bytes (key_start c) (mark_at m.cells c - 1),
      )) (cells_right m v t)
