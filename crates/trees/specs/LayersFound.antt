-- The search, the listing and the removal through the layers, read off memory and written to it.
use Rattle.std.specs.Prelude.{List, [], ◌∷◌, ℕ, zero, suc}
use Rattle.std.proofs.Math.Option.{Option, none}
use Rattle.order.specs.Lists.{flattened}
use Rattle.trees.specs.Nodes.{IkeyClass, NodeList}
use Rattle.trees.specs.PutInMemory.{layer_put}
use Rattle.trees.specs.FindInMemory.{memory_find, memory_entries}
use Rattle.trees.specs.Paths.{layer_key, path_down}
use Rattle.trees.specs.Entries.{from_option}
use Rattle.trees.specs.EntriesFound.{through, cell_asked}
use Rattle.trees.specs.Layers.{Pointer}
use Rattle.trees.specs.LayersPut.{by_pointer, height_in}

module _ (at : ℕ → List ℕ × ℕ) where
  -- the cell that has the key K, if one has
  abbrev pub layers_find : List ℕ → (l : ℕ) → List ℕ → ℕ → NodeList Pointer → Option ℕ
  layers_find K zero ks r m =
      through (by_pointer (cell_asked at K) (λ q. none)) (memory_find Pointer (height_in m r) (layer_key ks K) (0, r) m)
  layers_find K (suc l) ks r m =
      through (by_pointer (cell_asked at K) (λ q. layers_find K l (path_down K ks) q m))
      (memory_find Pointer (height_in m r) (layer_key ks K) (0, r) m)

-- the cells in key order
abbrev pub layers_cells : (l : ℕ) → ℕ → NodeList Pointer → List ℕ
layers_cells zero r m =
    flattened (λ (e : IkeyClass × Pointer). by_pointer (λ b. b ∷ []) (λ q. []) e.1) (memory_entries Pointer (height_in m r) (0, r) m)
layers_cells (suc l) r m =
    flattened (λ (e : IkeyClass × Pointer). by_pointer (λ b. b ∷ []) (λ q. layers_cells l q m) e.1)
    (memory_entries Pointer (height_in m r) (0, r) m)

module _ (top mid : ℕ) (cut : List (IkeyClass × Pointer) → ℕ) (at : ℕ → List ℕ × ℕ) (K : List ℕ) where
  -- The new root and the new memory without the key K: its entry goes from its leaf, in the layer where it is.
  abbrev pub layers_remove : (l : ℕ) → List ℕ → ℕ → NodeList Pointer → ℕ × NodeList Pointer
  layers_remove zero ks r m = layer_put Pointer top mid cut (height_in m r) (layer_key ks K) (λ o. none) r m
  layers_remove (suc l) ks r m =
      from_option (r, m)
      (by_pointer (λ b. layer_put Pointer top mid cut (height_in m r) (layer_key ks K) (λ o. none) r m)
      (λ q. (r, (layers_remove l (path_down K ks) q m).1)))
      (memory_find Pointer (height_in m r) (layer_key ks K) (0, r) m)
