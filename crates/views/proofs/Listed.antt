-- The cells that the walk in key order meets are those of the entries, each right; their keys and frames are the listing.
-- Assumes nothing.
use mathlib.Core.Path.{◌≡◌, refl, sym, ap, ap₂, ◌∙◌, subst}
use mathlib.Core.Logic.{inl, inr}
use mathlib.Core.List.{List, [], ◌∷◌, ◌++◌, map}
use Prim.Native.Nat.{ℕ, zero, suc, ◌+◌, ◌*◌, ◌≤◌}
use native.Mathlib.Omega.{arith}
use lib.Dec.{T}
use lib.ListN.{length}
use Rattle.bank.proofs.Tests.{and_left}
use Rattle.order.specs.Map.{All, a[], ◌a∷◌}
use Rattle.order.specs.Lists.{total, flattened}
use Rattle.order.proofs.Lists.{flattened-append}
use Rattle.arena.specs.Layout as layout
use Rattle.arena.specs.Layout.{key_at, frame_at}
use Rattle.arena.specs.Memory.{Memory}
use Rattle.forest.specs.Cells.{cell_right, filed}
use Rattle.forest.specs.Trees.{Key, Ref, Tree, top_of, entries_of, Holds, leftmost, rightmost}
use Rattle.forest.specs.Layers.{Value, Layer, root_of, ref_of, reached_by, reached, HeldBy, Held, InEdgesBy, InEdges, FiledBy, Filed, listed_by}
use Rattle.forest.specs.Layers.{listed}
use Rattle.forest.specs.IsTree.{Layers, Forest, listing}
use Rattle.forest.specs.Walk.{height_at}
use Rattle.model.specs.Listed.{cells_of, cells_of_leaf, cells_of_node, cells_of_one, cells_of_layer}
use Rattle.views.proofs.Lists.{flattened-map, map-flattened, flattened-all}
use Rattle.views.proofs.Nodes.{nodes_in}
use Rattle.views.proofs.Heights.{tree-height}
use Rattle.views.proofs.Whole.{lengths}

-- ---- the cells of layers

abbrev pub cells_by : (l : ℕ) → Value l → List ℕ
cells_by zero c = c ∷ []
cells_by (suc l) (inl c) = c ∷ []
cells_by (suc l) (inr v) = flattened (λ e. cells_by l e.1) v.1

abbrev pub cells_of_entries : (l : ℕ) → Layer l → List ℕ
cells_of_entries l v = flattened (λ e. cells_by l e.1) v.1

-- ---- one tree

module _ (nodes : List ℕ) (below : ℕ → List ℕ) where
  abbrev entry_cells : Key × Ref → List ℕ
  entry_cells e = cells_of below e.1

  children-cells : (h : ℕ)
      → ((t : Tree h) → Holds nodes h t → cells_of_node below nodes h (top_of h t) ≡ flattened entry_cells (entries_of h t))
      → {ps : List (ℕ × Tree h)} → All (λ p. Holds nodes h p.1) ps
      → flattened (λ p. cells_of_node below nodes h (top_of h p.1)) ps ≡ flattened entry_cells (flattened (λ p. entries_of h p.1) ps)
  children-cells h f a[] = refl
  children-cells h f (◌a∷◌ {x = p} {xs = ps} g gs) =
      ap₂ ◌++◌ (f p.1 g) (children-cells h f gs)
      ∙ sym (flattened-append entry_cells (entries_of h p.1) (flattened (λ p. entries_of h p.1) ps))

  node-cells : (h : ℕ) (t : Tree h) → Holds nodes h t → cells_of_node below nodes h (top_of h t) ≡ flattened entry_cells (entries_of h t)
  unfolding cells_of_node cells_of_leaf
  node-cells zero t held = ap (flattened entry_cells) held.1
  node-cells (suc h) t held =
      ap (flattened (cells_of_node below nodes h)) held.2 ∙ flattened-map (λ p. top_of h p.1) (cells_of_node below nodes h) t.1
      ∙ children-cells h (node-cells h) held.3

-- ---- layers

module _ (nodes : List ℕ) where
  -- the walk of the layers below
  abbrev below_of : ℕ → ℕ → List ℕ
  below_of zero root = []
  below_of (suc l) root = cells_of_layer l nodes root

  layer-one : (l root : ℕ) → cells_of_layer l nodes root ≡ cells_of_node (below_of l) nodes (height_at nodes 255 root) root
  unfolding cells_of_layer cells_of_one
  layer-one zero root = refl
  layer-one (suc l) root = refl

module _ (m : Memory) (whole : length m.nodes ≡ 2 + nodes_in m * 47) (few : nodes_in m ≤ 255) where
  abbrev ValueCells : ℕ → Type 0
  ValueCells l =
      (v : Value l) → HeldBy m.nodes l v → InEdgesBy l v → ((i : ℕ) → reached_by l v i ≤ 1)
      → cells_of (below_of m.nodes l) (ref_of l v) ≡ cells_by l v

  entries-cells : (l : ℕ) → ValueCells l → {es : List (Key × Value l)} → All (λ e. HeldBy m.nodes l e.1) es
      → All (λ e. InEdgesBy l e.1) es → ((i : ℕ) → total (λ e. reached_by l e.1 i) es ≤ 1)
      → flattened (λ e. cells_of (below_of m.nodes l) (ref_of l e.1)) es ≡ flattened (λ e. cells_by l e.1) es
  entries-cells l f a[] a[] once-each = refl
  entries-cells l f (◌a∷◌ {x = e} h hs) (b a∷ bs) once-each =
      ap₂ ◌++◌ (f e.1 h b (λ i. omega (arith, once-each i))) (entries-cells l f hs bs (λ i. omega (arith, once-each i)))

  layer-cells : (l : ℕ) → ValueCells l → (v : Layer l) → Held m.nodes l v → InEdges l v → ((i : ℕ) → reached l v i ≤ 1)
      → cells_of_layer l m.nodes (root_of v) ≡ cells_of_entries l v
  layer-cells l f v held edges once-each =
      let h = v.0.0 in
      let t = v.0.1 in
      let below = below_of m.nodes l in
      let high : height_at m.nodes 255 (top_of h t) ≡ h =
      tree-height m whole few h leftmost rightmost t held.0 edges.0 (λ i. omega (arith, once-each i)) in
      layer-one m.nodes l (root_of v) ∙ ap (λ (h : ℕ). cells_of_node below m.nodes h (root_of v)) high
      ∙ node-cells m.nodes below h t held.0 ∙ ap (flattened (λ e. cells_of below e.1)) held.1
      ∙ flattened-map (λ e. (e.0, ref_of l e.1)) (λ e. cells_of below e.1) v.1
      ∙ entries-cells l f held.2 edges.1 (λ i. omega (arith, once-each i))

  value-cells : (l : ℕ) → ValueCells l
  value-cells zero c held edges once-each = refl
  value-cells (suc l) (inl c) held edges once-each = refl
  value-cells (suc l) (inr v) held edges once-each = layer-cells l (value-cells l) v held edges once-each

  -- the walk from a root meets the cells of its layers' entries
  pub walk-cells : (l : ℕ) (v : Layer l) → Held m.nodes l v → InEdges l v → ((i : ℕ) → reached l v i ≤ 1)
      → cells_of_layer l m.nodes (root_of v) ≡ cells_of_entries l v
  walk-cells l v held edges once-each = layer-cells l (value-cells l) v held edges once-each

-- ---- their keys and frames, and that each is right

module _ (cells bytes : List ℕ) where
  abbrev pub key_and_frame : ℕ → List ℕ × ℕ
  key_and_frame c = (key_at cells bytes c, frame_at cells c)

  value-listed : (l : ℕ) (v : Value l) → map key_and_frame (cells_by l v) ≡ listed_by cells bytes l v
  value-listed zero c = refl
  value-listed (suc l) (inl c) = refl
  value-listed (suc l) (inr v) =
      map-flattened key_and_frame (λ e. cells_by l e.1) (λ e. listed_by cells bytes l e.1) (λ e. value-listed l e.1) v.1

  entries-listed : (l : ℕ) (v : Layer l) → map key_and_frame (cells_of_entries l v) ≡ listed cells bytes l v
  entries-listed l v =
      map-flattened key_and_frame (λ e. cells_by l e.1) (λ e. listed_by cells bytes l e.1) (λ e. value-listed l e.1) v.1

  abbrev AllRight : List ℕ → Type 0
  AllRight cs = All (λ c. T (cell_right cells bytes c)) cs

  filed-right : (above : List ℕ) (k : Key) (c : ℕ) → T (filed cells bytes above k.0 k.1 c) → AllRight (c ∷ [])
  unfolding filed
  filed-right above k c t = and_left (cell_right cells bytes c) _ t a∷ a[]

  value-right : (l : ℕ) (above : List ℕ) (k : Key) (v : Value l) → FiledBy cells bytes l above k v → AllRight (cells_by l v)
  value-right zero above k c files = filed-right above k c files
  value-right (suc l) above k (inl c) files = filed-right above k c files
  value-right (suc l) above k (inr v) files =
      flattened-all (λ e. cells_by l e.1) (λ e. value-right l (above ++ k.0 ∷ []) e.0 e.1) files

  entries-right : (l : ℕ) (above : List ℕ) (v : Layer l) → Filed cells bytes l above v → AllRight (cells_of_entries l v)
  entries-right l above v files = flattened-all (λ e. cells_by l e.1) (λ e. value-right l above e.0 e.1) files

-- ---- the whole

module _ (m : Memory) (v : Layers) (t : Forest m v) where
  whole_cells : cells_of_layer 31 m.nodes (layout.root_of m.nodes) ≡ cells_of_entries 31 v
  whole_cells =
      let right = lengths m t.lent in
      ap (cells_of_layer 31 m.nodes) t.rooted
      ∙ walk-cells m right.nodes-whole right.n-high 31 v t.held t.in-edges t.at-most-once

  pub cells-listed : map (key_and_frame m.cells m.bytes) (cells_of_layer 31 m.nodes (layout.root_of m.nodes)) ≡ listing m v
  cells-listed = ap (map (key_and_frame m.cells m.bytes)) whole_cells ∙ entries-listed m.cells m.bytes 31 v

  pub cells_right : All (λ c. T (cell_right m.cells m.bytes c)) (cells_of_layer 31 m.nodes (layout.root_of m.nodes))
  cells_right =
      subst (All (λ c. T (cell_right m.cells m.bytes c))) (sym whole_cells)
      (entries-right m.cells m.bytes 31 [] v t.filed)
