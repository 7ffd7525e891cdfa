-- Put: memory with a new key is a tree that lists what it did, with the key and its frame number; it takes the nodes that were needed
-- and one cell. Assumes nothing.
use mathlib.Core.Path.{◌≡◌, refl, sym, ap, ap₂, ◌∙◌, subst}
use mathlib.Core.Logic.{◌≢◌}
use mathlib.Core.Bool.{true, false}
use mathlib.Core.List.{List, [], ◌∷◌}
use mathlib.Core.Option.{Option, none, some}
use Prim.Native.Nat.{ℕ, ◌+◌, ◌≤◌, ◌<◌}
use native.Mathlib.Omega.{arith}
use lib.Dec.{leb}
use lib.ListN.{length, get_or, set, drop}
use borrow.Author.Tests.{eqb-true, leb-true}
use Rattle.order.specs.Bytes.{Bytes, bytewise}
use Rattle.order.specs.Map.{insert, All, alter, lookup}
use Rattle.arena.specs.Layout as layout
use Rattle.arena.specs.Layout.{cell_start, mark_at, key_at, put_cell, put_key}
use Rattle.arena.specs.Free.{is_free, free_nodes, free_cells}
use Rattle.arena.specs.Memory.{Memory, memory, node_count, cell_count}
use Rattle.arena.proofs.Frees.{first-passing}
use Rattle.arena.proofs.Measures.{and-true}
use Rattle.forest.specs.IsTree.{Layers, Forest, listing}
use Rattle.model.specs.Leaves.{rest_of}
use Rattle.model.specs.Calls.{nodes_of, cells_of, place, stored, needed_at, needed, has_room, fresh_cell, nodes_with, with, rests_passed}
use Rattle.trees.specs.Nodes.{NodeList}
use Rattle.trees.specs.FreeNumbers.{free_numbers, times_in}
use Rattle.trees.specs.Cut.{cut_place}
use Rattle.trees.specs.Entries.{cell_key, FitsLayers}
use Rattle.trees.specs.Cells.{CellList, cell_at, free_cell_numbers}
use Rattle.trees.specs.Layers.{Pointer, Layered, layer_root, layer_reaches}
use Rattle.trees.specs.LayersPut.{layers_put, layers_need}
use Rattle.trees.specs.LeafOfKey.{leaf_of_key, size_after_put}
use Rattle.trees.specs.WholeTree.{bare_entries, layer_uses, layer_listing, IsWholeTree}
use Rattle.trees.proofs.Nodes.{one_at-other}
use Rattle.trees.proofs.Cut.{cut-exists}
use Rattle.trees.proofs.Paths.{raised_ikey-lt}
use Rattle.trees.proofs.CellsUsed.{layer-listing-same, right-layer-same}
use Rattle.trees.proofs.Cells.{cell-taken, cell_same, cell_other}
use Rattle.trees.proofs.NeededThroughLayers.{layers_need-same}
use Rattle.trees.proofs.WholeTree.{ones_below-le, below-no-links, fits-first-layer, whole-put}
use Rattle.trees.proofs.WholeCalls.{whole-sorted}
use Rattle.order.proofs.Bytes.{bytewise-order}
use Rattle.order.proofs.Lookup.{lookup-new}
use Rattle.views.specs.Views.{tabled, node_view, nodes_view, cell_view, cells_view, layer_view, Sound}
use Rattle.views.proofs.Nodes.{nodes_in, cells_in, cells-long, free-cells-view}
use Rattle.views.proofs.LayerViews.{right_edge}
use Rattle.views.proofs.Whole.{lengths, ViewIsTree, sound-of, to-trees, listing-view, from-trees}
use Rattle.growth.proofs.Memory.{frees-view}
use Rattle.growth.proofs.Puts.{Rooted, top-grown}
use Rattle.growth.proofs.Lent.{nodes-of}
use Rattle.places.proofs.Meets.{Way}
use Rattle.places.proofs.Seen.{seen_key, place-way}
use Rattle.places.proofs.Found.{is_some, stored-lookup}
use Rattle.puts.proofs.PutCells.{put-cells-length, put-bytes-length, put-sound, put_view, put-bytes}
use Rattle.puts.proofs.Along as A

head_of : (fs : List ℕ) → 1 ≤ length fs → fs ≡ get_or fs 0 0 ∷ drop 1 fs
head_of [] h = absurd (omega arith)
head_of (f ∷ fs) h = refl

-- ---- memory with other nodes, and a cell taken

module _ (m : Memory) (sound : Sound m) (c : ℕ) (inside : c < cells_in m) (K : List ℕ) (short : length K ≤ 256) (frame : ℕ)
    (result : List ℕ) (b : ℕ × NodeList Pointer) (R : Rooted m.nodes (nodes_in m) result b) where
  abbrev after : Memory
  after = memory result (put_cell m.cells c (length K) frame) (put_key m.bytes c K)

  nodes-as-long : length result ≡ length m.nodes
  nodes-as-long = R.still.long ∙ sym (lengths m sound.lent).nodes-whole

  cells-as-long : length after.cells ≡ length m.cells
  cells-as-long = put-cells-length m.cells m.bytes (cells_in m) (lengths m sound.lent).cells_whole
      (lengths m sound.lent).bytes_whole c inside K short frame

  bytes-as-long : length after.bytes ≡ length m.bytes
  bytes-as-long = put-bytes-length m.cells m.bytes (cells_in m) (lengths m sound.lent).cells_whole
      (lengths m sound.lent).bytes_whole c inside K short frame

  as-many-nodes : nodes_in after ≡ nodes_in m
  as-many-nodes = ap node_count nodes-as-long

  as-many-cells : cells_in after ≡ cells_in m
  as-many-cells = ap cell_count cells-as-long

  after-nodes : nodes_view after ≡ b.1
  after-nodes = ap (λ (n : ℕ). tabled (node_view result) 0 n) as-many-nodes ∙ R.view

  after-cells : cells_view after ≡ set (cells_view m) c (some (K, frame))
  after-cells =
      ap (λ (n : ℕ). tabled (cell_view after.cells after.bytes) 0 n) as-many-cells
      ∙ put_view m.cells m.bytes (cells_in m) (lengths m sound.lent).cells_whole
      (lengths m sound.lent).bytes_whole c inside K short frame sound.cells-sound

  after-sound : Sound after
  after-sound = record {
    lent = rw (nodes-as-long, cells-as-long, bytes-as-long) sound.lent;
    nodes-sound = λ k h. R.still.sound k (rw (← as-many-nodes) h);
    cells-sound = λ j h. put-sound m.cells m.bytes (cells_in m) (lengths m sound.lent).cells_whole
        (lengths m sound.lent).bytes_whole c inside K short frame sound.cells-sound j (rw (← as-many-cells) h);
  }

  -- the trees' memory, cells and root are those of the view after
  after-tree : (w : Layered 31) → IsWholeTree 15 right_edge 31 (nodes_in m) (cells_in m) b.1 (set (cells_view m) c (some (K, frame)))
      b.0 w → ViewIsTree after w
  after-tree w t =
      subst (λ (n : ℕ). IsWholeTree 15 right_edge 31 n (cells_in after) (nodes_view after) (cells_view after) (layout.root_of result) w)
      (sym as-many-nodes)
      (subst (λ (n : ℕ). IsWholeTree 15 right_edge 31 (nodes_in m) n (nodes_view after) (cells_view after) (layout.root_of result) w)
      (sym as-many-cells)
      (subst (λ (M : NodeList Pointer). IsWholeTree 15 right_edge 31 (nodes_in m) (cells_in m) M (cells_view after) (layout.root_of result) w)
      (sym after-nodes)
      (subst (λ (cs : CellList). IsWholeTree 15 right_edge 31 (nodes_in m) (cells_in m) b.1 cs (layout.root_of result) w) (sym after-cells)
      (subst (λ (r : ℕ). IsWholeTree 15 right_edge 31 (nodes_in m) (cells_in m) b.1 (set (cells_view m) c (some (K, frame))) r w)
      (sym R.root_is) t))))

-- ---- put

module _ (m : Memory) (v : Layers) (t : Forest m v) (bytes : Bytes m.bytes) (K : List ℕ) (b : Bytes K) (short : length K ≤ 256)
    (frame : ℕ)
    (absent : stored m K ≡ false) (room : has_room m K ≡ true) where
  abbrev w : Layered 31
  w = layer_view 31 v

  abbrev M : NodeList Pointer
  M = nodes_view m

  abbrev s : Sound m
  s = sound-of m v t

  abbrev seen : ViewIsTree m w
  seen = to-trees m v t bytes

  -- ---- the cell

  abbrev c : ℕ
  c = fresh_cell m

  abbrev others : List ℕ
  others = drop 1 (free_cells m.cells (cells_of m))

  has-cell : 1 ≤ length (free_cells m.cells (cells_of m))
  has-cell = leb-true _ _ (and-true (leb 1 (length (free_cells m.cells (cells_of m)))) _ room).0

  lowest-cell : free_cells m.cells (cells_of m) ≡ c ∷ others
  lowest-cell = head_of (free_cells m.cells (cells_of m)) has-cell

  free-cells : free_cell_numbers 0 (cells_view m) ≡ c ∷ others
  free-cells = free-cells-view m ∙ lowest-cell

  abbrev cells' : CellList
  cells' = set (cells_view m) c (some (K, frame))

  abbrev at : ℕ → List ℕ × ℕ
  at = cell_at cells'

  taken : (c < length (cells_view m)) × (free_cell_numbers 0 cells' ≡ others)
  taken = cell-taken (cells_view m) c others (K, frame) free-cells

  inside : c < cells_in m
  inside = subst (λ (n : ℕ). c < n) (cells-long m) taken.0

  cell-is : at c ≡ (K, frame)
  cell-is = cell_same (cells_view m) c (K, frame) taken.0

  key-is : cell_key at c ≡ K
  key-is = ap (λ (x : List ℕ × ℕ). x.0) cell-is

  agree : (j : ℕ) → 1 ≤ mark_at m.cells j → cell_key at j ≡ key_at m.cells m.bytes j
  agree j h =
      let zero-mark : mark_at m.cells c ≡ 0 = eqb-true (mark_at m.cells c) 0
      (first-passing (is_free cell_start m.cells) 0 (cells_of m) lowest-cell).passes in
      ap (λ (x : List ℕ × ℕ). x.0) (cell_other (cells_view m) c j (some (K, frame)) (λ e. omega (arith, ap (mark_at m.cells) e)))
      ∙ seen_key m s j

  used-same : (j : ℕ) → 0 < layer_uses 31 w j → at j ≡ cell_at (cells_view m) j
  used-same j h =
      cell_other (cells_view m) c j (some (K, frame)) (one_at-other c j
      (omega (arith, seen.cells j, ap (λ (l : List ℕ). times_in l j) free-cells, ones_below-le (cells_in m) j)))

  -- ---- the nodes

  abbrev r : ℕ
  r = layout.root_of m.nodes

  along : A.Along m v t bytes K b short absent at c key-is used-same agree K r
  along = A.along m v t bytes K b short absent at c key-is used-same agree

  needs : layers_need 15 (cell_at (cells_view m)) K 31 [] r M ≡ needed m K
  needs =
      subst (λ (r : ℕ). layers_need 15 (cell_at (cells_view m)) K 31 [] r M ≡ layers_need 15 at K 31 [] r M) seen.rooted
      (sym (layers_need-same 15 9 cut_place right_edge (cell_at (cells_view m)) at K (λ J y. raised_ikey-lt y) 31 [] M w (below-no-links K b)
      seen.holds seen.good
      (λ j. omega (arith, A.once m v t bytes K b short absent j)) used-same))
      ∙ sym along.0

  enough : needed m K ≤ length (free_numbers 0 M)
  enough =
      subst (λ (fs : List ℕ). needed m K ≤ length fs) (sym (frees-view m.nodes (nodes_in m) (nodes-of m s).0))
      (leb-true _ _ (and-true (leb 1 (length (free_cells m.cells (cells_of m)))) _ room).1)

  abbrev grown : ℕ × NodeList Pointer
  grown = layers_put 15 9 cut_place at K c 31 [] r M

  abbrev result : List ℕ
  result = nodes_with m K c (place m K)

  rooted : Rooted m.nodes (nodes_in m) result grown
  rooted =
      top-grown (layer_reaches 31 w) m.nodes (nodes_in m) (layer_root 31 w) result grown
      (along.1 (subst (λ (n : ℕ). n ≤ length (free_numbers 0 M)) along.0 enough)) (sym seen.rooted)

  abbrev Putted : Type 0
  Putted =
      (x : Layered 31) × IsWholeTree 15 right_edge 31 (nodes_in m) (cells_in m) grown.1 cells' grown.0 x
      × (layer_listing 31 cells' x ≡ alter bytewise K (λ o. some frame) (layer_listing 31 (cells_view m) w))
      × (free_numbers 0 grown.1 ≡ drop (layers_need 15 (cell_at (cells_view m)) K 31 [] r M) (free_numbers 0 M))
      × (length (leaf_of_key K 31 [] x) ≡ size_after_put K 15 cut_place c 31 [] w)

  putted : Putted
  putted =
      whole-put 15 9 cut_place right_edge 31 (nodes_in m) (cells_in m) (cut-exists 9) (omega arith) (omega arith) (omega arith)
      (λ J y. raised_ikey-lt y)
      M (cells_view m) r w seen K frame b short (A.new m v t bytes K b short absent) c others free-cells
      (subst (λ (n : ℕ). n ≤ length (free_numbers 0 M)) (sym needs) enough)

  -- a tree that lists what memory does, with the key and its frame number
  abbrev pub More : Memory → Type 0
  More after = (u : Layers) × Forest after u × (listing after u ≡ insert bytewise K frame (listing m v)) × Bytes after.bytes

  pub put-tree : More (with m K frame)
  put-tree =
      let (x, X, listed, left, size) = putted in
      let (u, U, e) = from-trees (with m K frame) (after-sound m s c inside K short frame result grown rooted) x
      (after-tree m s c inside K short frame result grown rooted x X) in (
        u,
        U,
        listing-view (with m K frame) u U
            ∙ ap₂ (λ (cs : CellList) (y : Layered 31). layer_listing 31 cs y) (after-cells m s c inside K short frame result grown rooted) e
            ∙ listed ∙ ap (insert bytewise K frame) (sym (listing-view m v t)),
        put-bytes m.bytes c K bytes b,
      )

  -- as many nodes and cells are lent
  pub put-lent : (nodes_of (with m K frame) ≡ nodes_of m) × (cells_of (with m K frame) ≡ cells_of m)
  put-lent = (as-many-nodes m s c inside K short frame result grown rooted, as-many-cells m s c inside K short frame result grown rooted)

  -- the lowest of the free nodes are taken, as many as were needed, and the lowest free cell
  pub put-takes : (free_nodes (with m K frame).nodes (nodes_of m) ≡ drop (needed m K) (free_nodes m.nodes (nodes_of m)))
      × (free_cells (with m K frame).cells (cells_of m) ≡ drop 1 (free_cells m.cells (cells_of m)))
  put-takes =
      let (x, X, listed, left, size) = putted in (
        sym (frees-view result (nodes_in m) rooted.still) ∙ ap (free_numbers 0) rooted.view ∙ left
            ∙ ap₂ (λ (n : ℕ) (fs : List ℕ). drop n fs) needs (frees-view m.nodes (nodes_in m) (nodes-of m s).0),
        ap (free_cells (with m K frame).cells) (sym (as-many-cells m s c inside K short frame result grown rooted))
            ∙ sym (free-cells-view (with m K frame))
            ∙ ap (free_cell_numbers 0) (after-cells m s c inside K short frame result grown rooted) ∙ taken.1,
      )

  -- as the trees see memory then: the leaf of the key has as many entries as leave the slots resting that are passed up
  abbrev pub SeenWith : Memory → Type 0
  SeenWith after =
      Sound after × (x : Layered 31) × ViewIsTree after x × (rests_passed m K (place m K) ≡ rest_of (length (leaf_of_key K 31 [] x)))

  pub put-seen : SeenWith (with m K frame)
  put-seen =
      let (x, X, listed, left, size) = putted in (
        after-sound m s c inside K short frame result grown rooted,
        x,
        after-tree m s c inside K short frame result grown rooted x X,
        A.passed m v t bytes K b short absent at c key-is used-same agree refl ∙ ap rest_of (sym size),
      )
