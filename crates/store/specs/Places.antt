-- What a put counts and writes at the place that a key has met.
use Rattle.std.specs.Prelude.{ℕ, ◌-◌, ◌≤◌, Bool, List, leb, length}
use Rattle.arena.specs.Layout.{put_cell, put_key}
use Rattle.arena.specs.Free.{free_nodes, free_cells}
use Rattle.arena.specs.Memory.{Memory, memory, node_count, cell_count}
use Rattle.model.specs.declared.Met.{Met}
use Rattle.model.specs.declared.Met.TheVariants.{Stored, Conflict, Missing}
use Rattle.model.specs.Leaves.{rest_of}
use Rattle.model.specs.Grow.{entry_for, layer_rests}
use Rattle.model.specs.Calls.{nodes_of, needed_at, fresh_cell, nodes_with}
use Rattle.seek.specs.Lengths.{NodesLent, CellsLent}
use Rattle.seek.specs.Within.{Within}

-- one of these cells is free
abbrev pub has_cell_in : List ℕ → Bool
has_cell_in cells = leb 1 (length (free_cells cells (cell_count (length cells))))

-- the nodes that a put lacks for a key at this place: those that it needs less those that are free
abbrev pub lacking_at : Memory → List ℕ → Met → ℕ
lacking_at m key met = needed_at m key met - length (free_nodes m.nodes (nodes_of m))

-- memory with a new key at this place, and its frame number
abbrev pub with_at : Memory → List ℕ → ℕ → Met → Memory
with_at m key frame met =
    memory (nodes_with m key (fresh_cell m) met)
    (put_cell m.cells (fresh_cell m) (length key) frame)
    (put_key m.bytes (fresh_cell m) key)

-- how many slots rest in the leaf that the entry of a new key, in this cell, goes into at this place; in a new leaf, after a conflict,
-- two are in use
abbrev pub rests_with : Memory → List ℕ → ℕ → Met → ℕ
rests_with m key cell (Stored leaf position other) = 0
rests_with m key cell (Conflict leaf position other links) = rest_of 2
rests_with m key cell (Missing holder root links) = layer_rests m.nodes (nodes_of m) root (entry_for key cell links)

-- right lent lengths, with a node and a cell at least, and a place within them
pub record Lent (nodes cells bytes : List ℕ) (met : Met) : Type 0 where
  pub nodes-lent : NodesLent (length nodes)
  pub cells-lent : CellsLent (length cells) (length bytes)
  pub one-node : 1 ≤ node_count (length nodes)
  pub one_cell : 1 ≤ cell_count (length cells)
  pub place-within : Within (node_count (length nodes)) (cell_count (length cells)) met
