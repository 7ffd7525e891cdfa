-- What a walk tells of the numbers that it has seen, and what it may leave unseen.
use Rattle.std.specs.Prelude.{ℕ, ◌+◌, ◌*◌, ◌≤◌, ◌≡◌, Bool, true, false, ◌||◌, List, eqb, length, get_or}
use Rattle.std.proofs.Math.Option.{Option, none, some}
use Rattle.memory_layout.specs.Numbers.{header_words, node_words, cell_bytes, most_lent}
use Rattle.forest.specs.Nodes.{node_free}
use Rattle.forest.specs.Cells.{is_cell_free}
use Rattle.forest.specs.Trees.{node_no, cell_no}
use Rattle.forest.specs.Walk.{Seen}

-- what a step of the walk tells: where it says no, the numbers seen are of no use any more
unfoldable pub told : Bool → Seen → Option Seen
told true seen = some seen
told false seen = none

-- a node was seen, or is free
unfoldable pub node_left : List ℕ → Seen → ℕ → Bool
node_left nodes seen k = eqb (get_or seen (node_no k) 0) 1 || node_free nodes k

-- a cell was seen, or is free
unfoldable pub cell_left : List ℕ → List ℕ → Seen → ℕ → Bool
cell_left cells bytes seen c = eqb (get_or seen (cell_no c) 0) 1 || is_cell_free cells bytes c

-- a cell was seen
abbrev pub cell_seen : Seen → ℕ → Bool
cell_seen seen c = eqb (get_or seen (cell_no c) 0) 1

-- n nodes and c cells are all that is lent
pub record LentAll (nodes cells bytes seen : List ℕ) (n c : ℕ) : Type 0 where
  pub n-few : n ≤ most_lent
  pub c-few : c ≤ most_lent
  pub nodes-all : length nodes ≡ header_words + n * node_words
  pub cells-all : length cells ≡ c * 2
  pub bytes-all : length bytes ≡ c * cell_bytes
  pub room : length seen ≡ 510
