-- Right lent lengths, as facts of numbers.
use Rattle.std.specs.Prelude.{ℕ, ◌+◌, ◌*◌, ◌≤◌, ◌≡◌}
use Rattle.memory_layout.specs.Numbers.{header_words, node_words, cell_bytes, most_lent}
use Rattle.arena.specs.Memory.{node_count, cell_count}

-- two words, and 47 for each of at most 255 nodes
pub record NodesLent (nodes : ℕ) : Type 0 where
  pub few : node_count nodes ≤ most_lent
  pub whole : nodes ≡ header_words + node_count nodes * node_words

-- two words and 256 bytes for each of at most 255 cells
pub record CellsLent (cells bytes : ℕ) : Type 0 where
  pub few : cell_count cells ≤ most_lent
  pub pairs : cells ≡ cell_count cells * 2
  pub room : bytes ≡ cell_count cells * cell_bytes
