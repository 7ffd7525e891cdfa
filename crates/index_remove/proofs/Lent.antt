-- What a tree gives to a removal: right lent lengths, and where a stored key leads. Assumes nothing.
use mathlib.Core.Path.{◌≡◌}
use mathlib.Core.Bool.{Bool, true}
use mathlib.Core.List.{List}
use Prim.Native.Nat.{ℕ, ◌+◌, ◌≤◌, ◌<◌}
use native.Mathlib.Omega.{arith}
use lib.ListN.{length, set, length-set, length-replicate}
use Rattle.arena.specs.Parts.{zeros}
use Rattle.arena.specs.Layout.{cell_start, key_start, freed_cell, freed_key}
use Rattle.arena.specs.Memory.{memory, node_count, cell_count}
use Rattle.arena.proofs.Measures.{Right}
use Rattle.arena.proofs.Cells.{cells-length, bytes-length}
use Rattle.forest.specs.Walk.{is_tree}
use Rattle.model.specs.Leaves.{entry_put, entry_taken}
use Rattle.model.specs.declared.Met.{Met}
use Rattle.model.specs.declared.Met.TheVariants.{Stored}
use Rattle.seek.specs.Lengths.{NodesLent, CellsLent}
use Rattle.seek.specs.Within.{Within}
use Rattle.seek.proofs.Seeks.{stored-within}
use Rattle.index_questions.proofs.Lent as asked
pub use Rattle.index_questions.proofs.Lent.{tree-root, tree-seek, tag-other}

module _ (nodes cells bytes : List ℕ) {t : Bool} (e : t ≡ is_tree (memory nodes cells bytes)) (y : t ≡ true) where
  right : Right (length nodes) (length cells) (length bytes) (node_count (length nodes)) (cell_count (length cells))
  right = asked.right nodes cells bytes e y

  -- where a stored key leads
  module _ {r : Met} (w : Within (node_count (length nodes)) (cell_count (length cells)) r) {leaf p c : ℕ} (s : r ≡ Stored leaf p c) where
    -- what `take_counted` and `free_cell` ask
    pub stored-entry : (length nodes ≤ 11987) × (leaf < 255) × (p < 15) × (1 < length nodes)
    stored-entry =
        let h = stored-within _ _ w s in (
          omega (arith, right.n-high, right.nodes-whole),
          omega (arith, h.0, right.n-high),
          h.1,
          omega (arith, right.n-low, right.nodes-whole),
        )

    pub stored-cell : (cell_start c + 2 ≤ length cells) × (key_start c + 256 ≤ length bytes)
    stored-cell = let h = stored-within _ _ w s in
        (asked.stored-words nodes cells bytes e y w s, omega (arith, h.2, right.bytes_whole))

-- lengths are right still once an entry is taken, one less counted and a cell freed
pub still-lent : (nodes cells bytes : List ℕ) (leaf p n c : ℕ) → NodesLent (length nodes) → CellsLent (length cells) (length bytes)
    → (cell_start c + 2 ≤ length cells) × (key_start c + 256 ≤ length bytes) → {n1 c1 b1 : List ℕ} → n1 ≡ set (entry_taken nodes leaf p) 1 n
    → c1 ≡ freed_cell cells c → b1 ≡ freed_key bytes c → NodesLent (length n1) × CellsLent (length c1) (length b1)
unfolding entry_taken entry_put
still-lent nodes cells bytes leaf p n c lent held h en ec eb =
    rw (
      en,
      ec,
      eb,
      length-set,
      length-set,
      length-set,
      length-set,
      length-set,
      cells-length cells c h.0 (zeros 2) (length-replicate {A = ℕ} 2 0),
      bytes-length bytes c h.1 (zeros 256) (length-replicate {A = ℕ} 256 0),
    ) (lent, held)
