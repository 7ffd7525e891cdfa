-- Remove: memory without the entry at the key's place is a tree, and lists what it did without the key. Assumes nothing.
use mathlib.Core.Path.{◌≡◌, refl, sym, ap, ap₂, ◌∙◌, subst}
use mathlib.Core.Bool.{true}
use mathlib.Core.List.{List, []}
use mathlib.Core.Option.{none}
use Prim.Native.Nat.{ℕ, ◌≤◌, ◌<◌}
use native.Mathlib.Omega.{arith}
use lib.Dec.{T}
use lib.ListN.{length, set}
use Rattle.bank.proofs.Tests.{holds}
use Rattle.order.specs.Bytes.{Bytes, bytewise}
use Rattle.order.specs.Map.{delete, alter}
use Rattle.arena.specs.Layout as layout
use Rattle.arena.specs.Layout.{mark_at, key_at, freed_cell, freed_key}
use Rattle.arena.specs.Free.{free_nodes}
use Rattle.arena.specs.Memory.{Memory, memory, node_count, cell_count}
use Rattle.forest.specs.Nodes.{entries_at, leaf_right}
use Rattle.forest.specs.IsTree.{Layers, Forest, listing}
use Rattle.model.specs.Leaves.{entry_taken}
use Rattle.model.specs.Calls.{place, stored, is_stored}
use Rattle.model.specs.Calls as calls
use Rattle.model.specs.declared.Met.{Met}
use Rattle.model.specs.declared.Met.TheVariants.{Stored, Conflict, Missing}
use Rattle.trees.specs.Nodes.{leaf, NodeList}
use Rattle.trees.specs.FreeNumbers.{free_numbers}
use Rattle.trees.specs.Cut.{cut_place}
use Rattle.trees.specs.Cells.{CellList, cell_at}
use Rattle.trees.specs.Layers.{Pointer, Layered, layer_reaches}
use Rattle.trees.specs.LayersFound.{layers_find, layers_remove}
use Rattle.trees.specs.WholeTree.{layer_listing, IsWholeTree}
use Rattle.trees.proofs.FreeNumbers.{free-kept, in-use-inside}
use Rattle.trees.proofs.Cut.{cut-exists}
use Rattle.trees.proofs.Paths.{raised_ikey-lt}
use Rattle.trees.proofs.WholeTree.{ones_below-le, below-no-links}
use Rattle.trees.proofs.WholeCalls.{whole-remove}
use Rattle.views.specs.Views.{tabled, node_view, nodes_view, cell_view, cells_view, layer_view, Sound}
use Rattle.views.proofs.Nodes.{nodes_in, cells_in, nodes-long, frees-view}
use Rattle.views.proofs.LayerViews.{right_edge}
use Rattle.views.proofs.Whole.{ViewIsTree, sound-of, to-trees, listing-view, from-trees, lengths}
use Rattle.growth.proofs.Memory.{Nodes, Wrote, leaf-of}
use Rattle.growth.proofs.Entries.{sorted_rises}
use Rattle.places.proofs.Entries.{view_all}
use Rattle.places.proofs.Meets.{Way}
use Rattle.places.proofs.Looks.{seen-node}
use Rattle.places.proofs.Seen.{seen_key, place-way, marked-inside}
use Rattle.places.proofs.Found.{cell_of, way-found, way-marked, way-key}
use Rattle.places.proofs.Taken.{without_at, entry-taken}
use Rattle.places.proofs.FreedCells.{freed-cells-length, freed-bytes-length, freed-sound, freed-view, freed-bytes}
use Rattle.places.proofs.LeafLess.{MayGo, left_at, way-removed}

-- ---- memory without an entry and its cell

module _ (m : Memory) (sound : Sound m) (lf p c : ℕ) (inside : c < cells_in m) (L : MayGo m lf p) where
  abbrev after : Memory
  after = memory (entry_taken m.nodes lf p) (freed_cell m.cells c) (freed_key m.bytes c)

  its-nodes : Nodes m.nodes (nodes_in m)
  its-nodes = record { long = (lengths m sound.lent).nodes-whole; sound = sound.nodes-sound }

  in_memory : lf < nodes_in m
  in_memory = rw (← nodes-long m) (in-use-inside (nodes_view m) lf (rw L.is_leaf tt))

  right-leaf : T (leaf_right m.nodes lf)
  right-leaf = leaf-of m.nodes (nodes_in m) its-nodes lf in_memory {es = L.had}
      (sym (seen-node m (lengths m sound.lent).nodes-whole lf) ∙ L.is_leaf)

  node-taken : Wrote m.nodes (entry_taken m.nodes lf p) (nodes_in m) lf (leaf (view_all (without_at p (entries_at m.nodes lf))))
  node-taken =
      entry-taken m.nodes (nodes_in m) its-nodes lf in_memory right-leaf p L.inside
      (λ t. sorted_rises (without_at p (entries_at m.nodes lf)) t L.left-sorted)

  nodes-as-long : length (entry_taken m.nodes lf p) ≡ length m.nodes
  nodes-as-long = node-taken.still.long ∙ sym (lengths m sound.lent).nodes-whole

  cells-as-long : length (freed_cell m.cells c) ≡ length m.cells
  cells-as-long = freed-cells-length m.cells m.bytes (cells_in m) (lengths m sound.lent).cells_whole
      (lengths m sound.lent).bytes_whole c inside

  bytes-as-long : length (freed_key m.bytes c) ≡ length m.bytes
  bytes-as-long = freed-bytes-length m.cells m.bytes (cells_in m) (lengths m sound.lent).cells_whole
      (lengths m sound.lent).bytes_whole c inside

  as-many-nodes : nodes_in after ≡ nodes_in m
  as-many-nodes = ap node_count nodes-as-long

  as-many-cells : cells_in after ≡ cells_in m
  as-many-cells = ap cell_count cells-as-long

  pub after-nodes : nodes_view after ≡ left_at m lf p
  after-nodes = ap (λ (n : ℕ). tabled (node_view (entry_taken m.nodes lf p)) 0 n) as-many-nodes ∙ node-taken.view

  pub after-cells : cells_view after ≡ set (cells_view m) c none
  after-cells =
      ap (λ (n : ℕ). tabled (cell_view (freed_cell m.cells c) (freed_key m.bytes c)) 0 n) as-many-cells
      ∙ freed-view m.cells m.bytes (cells_in m) (lengths m sound.lent).cells_whole
      (lengths m sound.lent).bytes_whole c inside sound.cells-sound

  pub after-root : layout.root_of (entry_taken m.nodes lf p) ≡ layout.root_of m.nodes
  after-root = node-taken.head 0 (omega arith)

  pub after-sound : Sound after
  after-sound = record {
    lent = rw (nodes-as-long, cells-as-long, bytes-as-long) sound.lent;
    nodes-sound = λ k h. node-taken.still.sound k (rw (← as-many-nodes) h);
    cells-sound = λ j h. freed-sound m.cells m.bytes (cells_in m) (lengths m sound.lent).cells_whole
        (lengths m sound.lent).bytes_whole c inside sound.cells-sound j (rw (← as-many-cells) h);
  }

  -- a tree of its view is a tree of the view after
  pub after-tree : (w : Layered 31) → IsWholeTree 15 right_edge 31 (nodes_in m) (cells_in m) (left_at m lf p) (set (cells_view m) c none)
      (layout.root_of m.nodes) w → ViewIsTree after w
  after-tree w t =
      subst (λ (n : ℕ). IsWholeTree 15 right_edge 31 n (cells_in after) (nodes_view after) (cells_view after)
      (layout.root_of after.nodes) w) (sym as-many-nodes)
      (subst (λ (n : ℕ). IsWholeTree 15 right_edge 31 (nodes_in m) n (nodes_view after) (cells_view after) (layout.root_of after.nodes) w)
      (sym as-many-cells)
      (subst (λ (M : NodeList Pointer). IsWholeTree 15 right_edge 31 (nodes_in m) (cells_in m) M (cells_view after)
      (layout.root_of after.nodes) w) (sym after-nodes)
      (subst (λ (cs : CellList). IsWholeTree 15 right_edge 31 (nodes_in m) (cells_in m) (left_at m lf p) cs (layout.root_of after.nodes) w)
      (sym after-cells)
      (subst (λ (r : ℕ). IsWholeTree 15 right_edge 31 (nodes_in m) (cells_in m) (left_at m lf p) (set (cells_view m) c none) r w)
      (sym after-root) t))))

-- ---- remove

module _ (m : Memory) (v : Layers) (t : Forest m v) (bytes : Bytes m.bytes) (K : List ℕ) (b : Bytes K) where
  abbrev w : Layered 31
  w = layer_view 31 v

  s : Sound m
  s = sound-of m v t

  seen : ViewIsTree m (layer_view 31 v)
  seen = to-trees m v t bytes

  once : (j : ℕ) → layer_reaches 31 (layer_view 31 v) j ≤ 1
  once j = omega (arith, seen.nodes j, ones_below-le (nodes_in m) j)

  -- a tree that lists what memory does without the key
  abbrev pub Less : Memory → Type 0
  Less after = (u : Layers) × Forest after u × (listing after u ≡ delete bytewise K (listing m v)) × Bytes after.bytes

  -- the trees' search finds the cell of the place
  found-cell : (o : Met) → Way m K 31 (layer_view 31 v) [] 0 o
      → layers_find (cell_at (cells_view m)) K 31 [] (layout.root_of m.nodes) (nodes_view m) ≡ cell_of o
  found-cell o W =
      ap (λ (r : ℕ). layers_find (cell_at (cells_view m)) K 31 [] r (nodes_view m)) (sym seen.rooted)
      ∙ way-found m K (cell_at (cells_view m)) (seen_key m s) W (below-no-links K b) seen.holds seen.good once

  may-go : (lf p c : ℕ) → Way m K 31 (layer_view 31 v) [] 0 (Stored lf p c) → MayGo m lf p
  may-go lf p c W =
      (way-removed m K (lengths m s.lent).nodes-whole (lengths m s.lent).n-high 9 cut_place
      (cell_at (cells_view m)) W tt (below-no-links K b) seen.holds seen.good once).1

  less : (lf p c : ℕ) → Way m K 31 (layer_view 31 v) [] 0 (Stored lf p c) → Less (calls.without m (Stored lf p c))
  less lf p c W =
      let found = found-cell (Stored lf p c) W in
      let (taken, L) = way-removed m K (lengths m s.lent).nodes-whole (lengths m s.lent).n-high 9 cut_place
      (cell_at (cells_view m)) W tt (below-no-links K b) seen.holds seen.good once in
      let (x, X, listed) = whole-remove 15 9 cut_place right_edge 31 (nodes_in m) (cells_in m) (λ K b. raised_ikey-lt b) (cut-exists 9)
      (omega arith) (omega arith) (omega arith)
      (nodes_view m) (cells_view m) (layout.root_of m.nodes) w seen K b c found in
      less_by lf p c L (marked-inside m s c (way-marked m K W tt)) x
      (subst (λ (r : ℕ × NodeList Pointer). IsWholeTree 15 right_edge 31 (nodes_in m) (cells_in m) r.1 (set (cells_view m) c none) r.0 x)
      (ap (λ (r : ℕ). layers_remove 15 9 cut_place (cell_at (cells_view m)) K 31 [] r (nodes_view m)) (sym seen.rooted) ∙ taken
      ∙ ap (λ (r : ℕ). (r, left_at m lf p)) seen.rooted) X)
      listed
    where
      less_by : (lf p c : ℕ) → MayGo m lf p → c < cells_in m → (x : Layered 31)
          → IsWholeTree 15 right_edge 31 (nodes_in m) (cells_in m) (left_at m lf p) (set (cells_view m) c none) (layout.root_of m.nodes) x
          → layer_listing 31 (set (cells_view m) c none) x ≡ alter bytewise K (λ o. none) (layer_listing 31 (cells_view m) (layer_view 31 v))
          → Less (calls.without m (Stored lf p c))
      less_by lf p c L inside x X listed =
          let (u, U, e) = from-trees (after m s lf p c inside L) (after-sound m s lf p c inside L) x
          (after-tree m s lf p c inside L x X) in (
            u,
            U,
            listing-view (after m s lf p c inside L) u U
                ∙ ap₂ (λ (cs : CellList) (y : Layered 31). layer_listing 31 cs y) (after-cells m s lf p c inside L) e
                ∙ listed ∙ ap (delete bytewise K) (sym (listing-view m v t)),
            freed-bytes m.bytes c bytes,
          )

  pub removed-tree : stored m K ≡ true → Less (calls.without m (place m K))
  removed-tree = go (place m K) (place-way m s w seen K b)
    where
      go : (o : Met) → Way m K 31 (layer_view 31 v) [] 0 o → is_stored o ≡ true → Less (calls.without m o)
      go (Stored lf p c) W e = less lf p c W
      go (Conflict lf p c links) W e = let z : ◌≡◌ {A = ℕ} 0 1 = cc in absurd (omega arith)
      go (Missing holder root links) W e = let z : ◌≡◌ {A = ℕ} 0 1 = cc in absurd (omega arith)

  -- ---- what it frees

  -- the entry's cell, which has the key, and no node: memory after it has the cell zeroed, every other cell as it was, and the same nodes
  -- free
  abbrev pub FreesCell : Memory → ℕ → Type 0
  FreesCell after c =
      (key_at m.cells m.bytes c ≡ K) × (1 ≤ mark_at m.cells c)
      × (after.cells ≡ freed_cell m.cells c) × (after.bytes ≡ freed_key m.bytes c)
      × (free_nodes after.nodes (nodes_in m) ≡ free_nodes m.nodes (nodes_in m))

  same-nodes-free : (lf p c : ℕ) → MayGo m lf p → c < cells_in m
      → free_nodes (entry_taken m.nodes lf p) (nodes_in m) ≡ free_nodes m.nodes (nodes_in m)
  same-nodes-free lf p c L inside =
      ap (free_nodes (entry_taken m.nodes lf p)) (sym (as-many-nodes m s lf p c inside L))
      ∙ sym (frees-view (after m s lf p c inside L) (after-sound m s lf p c inside L))
      ∙ ap (free_numbers 0) (after-nodes m s lf p c inside L)
      ∙ free-kept (nodes_view m) 0 lf (leaf (view_all (without_at p (entries_at m.nodes lf)))) (rw L.is_leaf tt) tt
      ∙ frees-view m s

  pub removed-frees : stored m K ≡ true → (c : ℕ) × FreesCell (calls.without m (place m K)) c
  removed-frees = go (place m K) (place-way m s w seen K b)
    where
      go : (o : Met) → Way m K 31 (layer_view 31 v) [] 0 o → is_stored o ≡ true → (c : ℕ) × FreesCell (calls.without m o) c
      go (Stored lf p c) W e =
          let marked = way-marked m K W tt in
          (c, (way-key m K W tt, marked, refl, refl, same-nodes-free lf p c (may-go lf p c W) (marked-inside m s c marked)))
      go (Conflict lf p c links) W e = let z : ◌≡◌ {A = ℕ} 0 1 = cc in absurd (omega arith)
      go (Missing holder root links) W e = let z : ◌≡◌ {A = ℕ} 0 1 = cc in absurd (omega arith)
