-- The whole of memory: nodes and cells, all layers from the root on, and what they list.
use Rattle.std.specs.Prelude.{List, [], map, ◌≡◌, cond, ℕ, ◌+◌, ltb, length, replicate}
use Rattle.order.specs.Lists.{total, flattened}
use Rattle.trees.specs.Nodes.{IkeyClass, free, NodeList}
use Rattle.trees.specs.FreeNumbers.{free_numbers, times_in}
use Rattle.trees.specs.Entries.{RightLayer, EntryValue, entry_listing, cell_uses}
use Rattle.trees.specs.Cells.{CellList, cell_at, free_cell_numbers}
use Rattle.trees.specs.Layers.{Pointer, Layered, bare_entry, layer_root, layer_reaches, HoldsLayer}

-- 1 for each number below n
abbrev pub ones_below : ℕ → ℕ → ℕ
ones_below n j = cond (ltb j n) 1 0

module _ (l : ℕ) where
  -- the layer's entries with the trees left out
  abbrev pub bare_entries : Layered l → List (IkeyClass × EntryValue l)
  bare_entries v = map (bare_entry l) v.1

  -- how often cell j is used
  abbrev pub layer_uses : Layered l → ℕ → ℕ
  layer_uses v j = total (λ e. cell_uses l e.1 j) (bare_entries v)

  -- the keys and frames, in order
  abbrev pub layer_listing : CellList → Layered l → List (List ℕ × ℕ)
  layer_listing cs v = flattened (entry_listing (cell_at cs) l) (bare_entries v)

module _ (top hi l N C : ℕ) where
  -- Nodes m and cells cs with the root r are the tree of the layers v: l links deep at most, N nodes, C cells. Each node is reached once
  -- or free, and each cell is used once or free.
  pub record IsWholeTree (m : NodeList Pointer) (cs : CellList) (r : ℕ) (v : Layered l) : Type 0 where
    pub rooted : layer_root l v ≡ r
    pub holds : HoldsLayer top hi l m v
    pub good : RightLayer (cell_at cs) l [] (bare_entries l v)
    pub size : (length m ≡ N) × (length cs ≡ C)
    pub nodes : (j : ℕ) → layer_reaches l v j + times_in (free_numbers 0 m) j ≡ ones_below N j
    pub cells : (j : ℕ) → layer_uses l v j + times_in (free_cell_numbers 0 cs) j ≡ ones_below C j

-- n free nodes
abbrev pub all_free : ℕ → NodeList Pointer
all_free n = replicate n free
