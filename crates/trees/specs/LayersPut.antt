-- A put through the layers, read off memory and written to it: of the key K in cell c, below the path ks, into the layer rooted at r.
-- `at` is what the cells have, and l how many links more may follow.
use Rattle.std.specs.Prelude.{List, [], ◌∷◌, ℕ, zero, suc, get_or, length, set}
use Rattle.std.proofs.Math.Option.{some}
use Rattle.order.specs.Map.{alter, pick}
use Rattle.trees.specs.Nodes.{IkeyClass, layer_order, leaf, NodeList}
use Rattle.trees.specs.FreeNumbers.{free_numbers, lowest_free}
use Rattle.trees.specs.PutInMemory.{layer_put}
use Rattle.trees.specs.FindInMemory.{height_from, memory_find, memory_needs}
use Rattle.trees.specs.Paths.{layer_key, path_down}
use Rattle.trees.specs.Entries.{from_option, cell_key}
use Rattle.trees.specs.Layers.{Pointer, cell, link}

-- f of a cell, g of a link
abbrev pub by_pointer : {A : Type 0} → (ℕ → A) → (ℕ → A) → Pointer → A
by_pointer f g (cell b) = f b
by_pointer f g (link q) = g q

-- the height of the layer rooted at r
abbrev pub height_in : NodeList Pointer → ℕ → ℕ
height_in m r = height_from (length m) m r

-- how many new layers a conflict of the keys K and J makes: one for each further equal ikey with both longer, and one with the two
abbrev pub conflict_count : (K J : List ℕ) (l : ℕ) → List ℕ → ℕ
conflict_count K J zero ks = 1
conflict_count K J (suc l) ks = pick (layer_order (layer_key ks K) (layer_key ks J)) 1 (suc (conflict_count K J l (path_down K ks))) 1

module _ (at : ℕ → List ℕ × ℕ) (K : List ℕ) (c : ℕ) where
  -- the leaf of a conflict with cell b that has the two
  abbrev pub conflict_leaf : List ℕ → ℕ → List (IkeyClass × Pointer)
  conflict_leaf ks b = alter layer_order (layer_key ks K) (λ o. some (cell c)) ((layer_key ks (cell_key at b), cell b) ∷ [])

  -- the leaves of a conflict with cell b: single links from the top down, then the one with the two, each in the lowest free node
  abbrev pub conflict_written : (b l : ℕ) → List ℕ → NodeList Pointer → NodeList Pointer
  conflict_written b zero ks m = set m (lowest_free m) (leaf (conflict_leaf ks b))
  conflict_written b (suc l) ks m =
      pick (layer_order (layer_key ks K) (layer_key ks (cell_key at b)))
      (set m (lowest_free m) (leaf (conflict_leaf ks b)))
      (conflict_written b l (path_down K ks) (set m (lowest_free m) (leaf ((layer_key ks K, link (get_or (free_numbers 0 m) 1 0)) ∷ []))))
      (set m (lowest_free m) (leaf (conflict_leaf ks b)))

module _ (top mid : ℕ) (cut : List (IkeyClass × Pointer) → ℕ) (at : ℕ → List ℕ × ℕ) (K : List ℕ) (c : ℕ) where
  -- The new root and the new memory: a new entry in this layer; or, where its ikey and class are there, the conflict or the layer below,
  -- and then the entry that leads to it.
  abbrev pub layers_put : (l : ℕ) → List ℕ → ℕ → NodeList Pointer → ℕ × NodeList Pointer
  layers_put zero ks r m = layer_put Pointer top mid cut (height_in m r) (layer_key ks K) (λ o. some (cell c)) r m
  layers_put (suc l) ks r m =
      from_option (layer_put Pointer top mid cut (height_in m r) (layer_key ks K) (λ o. some (cell c)) r m)
      (λ p.
      let b = by_pointer (λ b. (lowest_free m, conflict_written at K c b l (path_down K ks) m)) (λ q. layers_put l (path_down K ks) q m) p in
      layer_put Pointer top mid cut (height_in m r) (layer_key ks K) (λ o. some (link b.0)) r b.1)
      (memory_find Pointer (height_in m r) (layer_key ks K) (0, r) m)

module _ (top : ℕ) (at : ℕ → List ℕ × ℕ) (K : List ℕ) where
  -- the nodes that it takes
  abbrev pub layers_need : (l : ℕ) → List ℕ → ℕ → NodeList Pointer → ℕ
  layers_need zero ks r m = memory_needs Pointer top (height_in m r) (layer_key ks K).0 (0, r) m 1
  layers_need (suc l) ks r m =
      from_option (memory_needs Pointer top (height_in m r) (layer_key ks K).0 (0, r) m 1)
      (by_pointer (λ b. conflict_count K (cell_key at b) l (path_down K ks)) (λ q. layers_need l (path_down K ks) q m))
      (memory_find Pointer (height_in m r) (layer_key ks K) (0, r) m)
