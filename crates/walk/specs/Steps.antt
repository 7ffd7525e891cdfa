-- What the steps of the walk say, and what they count on.
use Rattle.std.specs.Prelude.{ℕ, zero, suc, ◌+◌, ◌-◌, ◌*◌, ◌/◌, ◌≤◌, ◌≡◌, Bool, cond, List, length, get_or, take, Option, Some}
use Rattle.std.proofs.Math.Option.{none}
use Rattle.memory_layout.specs.Numbers.{header_words, node_words, cell_words, cell_bytes, most_lent}
use Rattle.leaf_entries.specs.declared.Entry.{Entry}
use Rattle.arena.specs.Memory.{Memory}
use Rattle.forest.specs.Cells.{filed}
use Rattle.forest.specs.Trees.{Key, Ref, cell_no}
use Rattle.forest.specs.Walk.{Seen, Step, when, see, walk_ref, walk_layer}
unfoldable pub use Rattle.audit_seen.specs.Seen.{told}

-- the walk of the layers that may follow where so many links were taken: none after 31
unfoldable pub below : ℕ → Memory → List ℕ → ℕ → Step
below zero m above root seen = none
below (suc l) m above root seen = walk_layer l m above root seen

-- the walk of what an entry has, where so many links were taken: the first so many of `above` are their ikeys
unfoldable pub refs_at : Memory → List ℕ → ℕ → Key → Ref → Step
refs_at m above links = walk_ref (below (31 - links) m) m (take links above)

-- an entry's cell, rightly filed and not seen before
unfoldable pub cell_of : List ℕ → List ℕ → List ℕ → Entry → Step
cell_of cells bytes above e seen =
    when (filed cells bytes above e.ikey e.class e.at) (see (cell_no e.at) seen)

-- the edge to the right of a child: the ikey that stands there, or the node's own behind the last
unfoldable pub edge_at : List ℕ → ℕ → Bool → Option ℕ → Option ℕ
edge_at nodes at inner high = cond inner (Some (get_or nodes at 0)) high

-- what the walk counts on: right lengths, room for every number, and at most 31 links
pub record Lent (nodes cells bytes seen above : List ℕ) (links : ℕ) : Type 0 where
  pub nodes-few : length nodes ≤ header_words + most_lent * node_words
  pub nodes-whole : length nodes ≡ header_words + (length nodes / node_words) * node_words
  pub cells-few : length cells ≤ 510
  pub cells_whole : length cells ≡ (length cells / 2) * 2
  pub bytes_whole : length bytes ≡ (length cells / cell_words) * cell_bytes
  pub room : length seen ≡ 510
  pub way : length above ≡ 32
  pub few : links ≤ 31

-- the same without the nodes
pub record LentCells (cells bytes seen above : List ℕ) (links : ℕ) : Type 0 where
  pub cells-few : length cells ≤ 510
  pub cells_whole : length cells ≡ (length cells / 2) * 2
  pub bytes_whole : length bytes ≡ (length cells / cell_words) * cell_bytes
  pub room : length seen ≡ 510
  pub way : length above ≡ 32
  pub few : links ≤ 31
