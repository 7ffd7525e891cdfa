-- Right lent lengths say what `NodesLent` and `CellsLent` do. Assumes nothing.
use Prim.Native.Nat.{ℕ, ◌+◌, ◌*◌}
use mathlib.Core.Path.{◌≡◌}
use mathlib.Core.Bool.{Bool, true, ◌&&◌}
use lib.Dec.{eqb, leb}
use borrow.Author.Tests.{leb-true, eqb-true}
use Rattle.leaf.proofs.Lists.{both}
use Rattle.arena.specs.Memory.{node_count, cell_count, up_to255, right_lengths}
use Rattle.seek.specs.Lengths.{NodesLent, CellsLent}

module _ (nodes cells bytes : ℕ) (e : right_lengths nodes cells bytes ≡ true) where
  abbrev two : Bool
  two = up_to255 (node_count nodes) && up_to255 (cell_count cells)

  abbrev three : Bool
  three = two && eqb nodes (2 + node_count nodes * 47)

  abbrev four : Bool
  four = three && eqb cells (cell_count cells * 2)

  at-bytes : (four ≡ true) × (eqb bytes (cell_count cells * 256) ≡ true)
  unfolding right_lengths
  at-bytes = both {a = four} e

  at_cells : (three ≡ true) × (eqb cells (cell_count cells * 2) ≡ true)
  at_cells = both {a = three} at-bytes.0

  at-nodes : (two ≡ true) × (eqb nodes (2 + node_count nodes * 47) ≡ true)
  at-nodes = both {a = two} at_cells.0

  at-counts : (up_to255 (node_count nodes) ≡ true) × (up_to255 (cell_count cells) ≡ true)
  at-counts = both {a = up_to255 (node_count nodes)} at-nodes.0

  pub lent-nodes : NodesLent nodes
  lent-nodes =
      record {
        few = leb-true (node_count nodes) 255 (both {a = leb 1 (node_count nodes)} at-counts.0).1;
        whole = eqb-true nodes (2 + node_count nodes * 47) at-nodes.1;
      }

  pub lent-cells : CellsLent cells bytes
  lent-cells =
      record {
        few = leb-true (cell_count cells) 255 (both {a = leb 1 (cell_count cells)} at-counts.1).1;
        pairs = eqb-true cells (cell_count cells * 2) at_cells.1;
        room = eqb-true bytes (cell_count cells * 256) at-bytes.1;
      }
