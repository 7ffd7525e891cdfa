-- Memory is a tree exactly where each node and cell is right by itself and the view is a tree; both list the same. Assumes nothing.
use mathlib.Core.Path.{◌≡◌, refl, sym, ap, ap₂, ◌∙◌, subst}
use mathlib.Core.Logic.{◌⊎◌, inl, inr, ⊎_elim}
use mathlib.Core.List.{List, []}
use Prim.Native.Nat.{ℕ, zero, suc, ◌+◌, ◌≤◌, ◌<◌}
use native.Mathlib.Omega.{arith}
use lib.Dec.{T}
use lib.ListN.{length, get_or-eq_default}
use borrow.Author.Tests.{eq-eqb, ne_eqb, eqb-true, eqb-false}
use Rattle.bank.proofs.Tests.{is_true}
use Rattle.order.specs.Bytes.{Bytes}
use Rattle.arena.specs.Free.{is_free}
use Rattle.arena.specs.Layout as layout
use Rattle.arena.specs.Layout.{node_start, cell_start, kind_at, mark_at}
use Rattle.arena.specs.Memory.{Memory, right_lengths}
use Rattle.arena.proofs.Words.{lt-or-ge}
use Rattle.arena.proofs.Measures.{Right, right-means}
use Rattle.forest.specs.Nodes.{node_free}
use Rattle.forest.specs.Cells.{is_cell_free, cell_right}
use Rattle.forest.specs.Trees.{node_no, cell_no}
use Rattle.forest.specs.Layers.{root_of, reached}
use Rattle.forest.specs.IsTree.{Layers, Forest, listing}
use Rattle.forest.proofs.Inside.{leaf-kind, internode-kind, leaf-inside, internode-inside}
use Rattle.trees.specs.FreeNumbers.{times_in}
use Rattle.trees.specs.Layers.{Layered}
use Rattle.trees.specs.WholeTree.{layer_listing, IsWholeTree}
use Rattle.views.specs.Views.{nodes_view, cells_view, layer_view, Sound}
use Rattle.views.proofs.Nodes.{nodes_in, cells_in, nodes-long, cells-long, frees-view, free-cells-view, node-cases, cell-cases}
use Rattle.views.proofs.Nodes.{free-kind, free-mark, right-mark, free-sound, leaf-sound, internode-sound, free-cell-sound}
use Rattle.views.proofs.Nodes.{right-cell-sound}
use Rattle.views.proofs.TreeViews.{root-view}
use Rattle.views.proofs.LayerViews.{right_edge, layer-view, view-layer, layer-behind}
use Rattle.views.proofs.Counts.{nodes-reached, cells-reached, NodeUsed, node-used, cell-used, some_or_none}
use Rattle.views.proofs.Balance.{Balanced, balanced, counted-once, counted-fails, other-passes}
use Rattle.views.proofs.Files.{layer-good, good-layer, layer-listed}

-- the view of memory is this tree: fifteen entries to a leaf, 31 links
abbrev pub ViewIsTree : (m : Memory) → Layered 31 → Type 0
ViewIsTree m w = IsWholeTree 15 right_edge 31 (nodes_in m) (cells_in m) (nodes_view m) (cells_view m) (layout.root_of m.nodes) w

pub lengths : (m : Memory) → T (right_lengths (length m.nodes) (length m.cells) (length m.bytes))
    → Right (length m.nodes) (length m.cells) (length m.bytes) (nodes_in m) (cells_in m)
lengths m t = right-means _ _ _ (is_true (right_lengths (length m.nodes) (length m.cells) (length m.bytes)) t)

-- number j of the nodes is reached once or free, and so is number j of the cells
abbrev NodeBalanced : Memory → Layers → ℕ → Type 0
NodeBalanced m v j = Balanced (is_free node_start m.nodes) (nodes_in m) (reached 31 v (node_no j)) j

abbrev CellBalanced : Memory → Layers → ℕ → Type 0
CellBalanced m v j = Balanced (is_free cell_start m.cells) (cells_in m) (reached 31 v (cell_no j)) j

-- ---- what a tree says of each node and each cell

module _ (m : Memory) (v : Layers) (t : Forest m v) where
  right : Right (length m.nodes) (length m.cells) (length m.bytes) (nodes_in m) (cells_in m)
  right = lengths m t.lent

  node-inside : (j : ℕ) → NodeUsed m.nodes j → j < nodes_in m
  node-inside j used =
      ⊎_elim (leaf-inside m.nodes (nodes_in m) right.nodes-whole j)
      (internode-inside m.nodes (nodes_in m) right.nodes-whole j) used

  node-kind : (j : ℕ) → NodeUsed m.nodes j → kind_at m.nodes j ≡ 0 → ⊥
  node-kind j used z =
      ⊎_elim (λ r. omega (arith, leaf-kind m.nodes j r)) (λ r. omega (arith, internode-kind m.nodes j r)) used

  cell-inside : (j : ℕ) → T (cell_right m.cells m.bytes j) → j < cells_in m
  cell-inside j r =
      ⊎_elim (λ h. h) (λ h. absurd (omega (
        arith,
        (right-mark m.cells m.bytes j r).0,
        get_or-eq_default m.cells 0 {n = cell_start j} (omega (arith, right.cells_whole)),
      ))) (lt-or-ge j (cells_in m))

  pub sound-of : Sound m
  sound-of = record {
    lent = t.lent;
    nodes-sound = λ k h.
        ⊎_elim (λ r. ⊎_elim (leaf-sound m.nodes k) (internode-sound m.nodes k) (node-used m.nodes 31 v t.held k r))
        (λ z. free-sound m.nodes k (t.other-nodes k h z)) (some_or_none (reached 31 v (node_no k)));
    cells-sound = λ c h.
        ⊎_elim (λ r. right-cell-sound m.cells m.bytes c (cell-used m.cells m.bytes 31 [] v t.filed c r))
        (λ z. free-cell-sound m.cells m.bytes c (t.other-cells c h z)) (some_or_none (reached 31 v (cell_no c)));
  }

  nodes-balanced : (j : ℕ) → NodeBalanced m v j
  nodes-balanced j =
      balanced (is_free node_start m.nodes) (nodes_in m) (reached 31 v (node_no j)) j (t.at-most-once (node_no j))
      (λ h.
      let used = node-used m.nodes 31 v t.held j h in
      (node-inside j used, ne_eqb (kind_at m.nodes j) 0 (node-kind j used)))
      (λ h z. eq-eqb (kind_at m.nodes j) 0 (free-kind m.nodes j (t.other-nodes j h z)))

  cells-balanced : (j : ℕ) → CellBalanced m v j
  cells-balanced j =
      balanced (is_free cell_start m.cells) (cells_in m) (reached 31 v (cell_no j)) j (t.at-most-once (cell_no j))
      (λ h.
      let used = cell-used m.cells m.bytes 31 [] v t.filed j h in
      let marked = right-mark m.cells m.bytes j used in
      (cell-inside j used, ne_eqb (mark_at m.cells j) 0 (λ z. omega (arith, marked.0))))
      (λ h z. eq-eqb (mark_at m.cells j) 0 (free-mark m.cells m.bytes j (t.other-cells j h z)))

  -- ---- a tree's view is a tree

  pub to-trees : Bytes m.bytes → ViewIsTree m (layer_view 31 v)
  to-trees bytes = record {
    rooted = root-view v.0.0 v.0.1 ∙ sym t.rooted;
    holds = layer-view m right.nodes-whole 31 v t.held t.in-edges;
    good = layer-good m right.cells_whole right.nodes-whole bytes v t.held t.in-edges t.filed;
    size = (nodes-long m, cells-long m);
    nodes = λ j. ap₂ ◌+◌ (nodes-reached 31 v j) (ap (λ (ks : List ℕ). times_in ks j) (frees-view m sound-of)) ∙ nodes-balanced j;
    cells = λ j. ap₂ ◌+◌ (cells-reached 31 v j) (ap (λ (ks : List ℕ). times_in ks j) (free-cells-view m)) ∙ cells-balanced j;
  }

  -- which lists the same
  pub listing-view : listing m v ≡ layer_listing 31 (cells_view m) (layer_view 31 v)
  listing-view = sym (layer-listed m right.cells_whole 31 [] v t.filed)

-- ---- and back, where each node and each cell is right by itself

even-or-odd : (i : ℕ) → ((k : ℕ) × (node_no k ≡ i)) ⊎ ((c : ℕ) × (cell_no c ≡ i))
even-or-odd zero = inl (0, refl)
even-or-odd (suc i) = ⊎_elim (λ (k, e). inr (k, omega arith)) (λ (c, e). inl (suc c, omega arith)) (even-or-odd i)

module _ (m : Memory) (sound : Sound m) where
  right-lengths : Right (length m.nodes) (length m.cells) (length m.bytes) (nodes_in m) (cells_in m)
  right-lengths = lengths m sound.lent

  module _ (v : Layers) (t : ViewIsTree m (layer_view 31 v)) where
    nodes-sum : (j : ℕ) → NodeBalanced m v j
    nodes-sum j = sym (ap₂ ◌+◌ (nodes-reached 31 v j) (ap (λ (ks : List ℕ). times_in ks j) (frees-view m sound))) ∙ t.nodes j

    cells-sum : (j : ℕ) → CellBalanced m v j
    cells-sum j = sym (ap₂ ◌+◌ (cells-reached 31 v j) (ap (λ (ks : List ℕ). times_in ks j) (free-cells-view m))) ∙ t.cells j

    reached-once : (i : ℕ) → reached 31 v i ≤ 1
    reached-once i =
        ⊎_elim (λ (k, e). subst (λ (i : ℕ). reached 31 v i ≤ 1) e (counted-once _ (nodes_in m) _ k (nodes-sum k)))
        (λ (c, e). subst (λ (i : ℕ). reached 31 v i ≤ 1) e (counted-once _ (cells_in m) _ c (cells-sum c))) (even-or-odd i)

    others-free : (k : ℕ) → k < nodes_in m → reached 31 v (node_no k) ≡ 0 → T (node_free m.nodes k)
    others-free k h z =
        let kind : kind_at m.nodes k ≡ 0 =
        eqb-true _ _ (other-passes (is_free node_start m.nodes) (nodes_in m) _ k (nodes-sum k) h z) in
        node-cases m.nodes k (sound.nodes-sound k h) (λ f. f) (λ r. absurd (omega (arith, leaf-kind m.nodes k r)))
        (λ r. absurd (omega (arith, internode-kind m.nodes k r)))

    cells_free : (c : ℕ) → c < cells_in m → reached 31 v (cell_no c) ≡ 0 → T (is_cell_free m.cells m.bytes c)
    cells_free c h z =
        let mark : mark_at m.cells c ≡ 0 =
        eqb-true _ _ (other-passes (is_free cell_start m.cells) (cells_in m) _ c (cells-sum c) h z) in
        cell-cases m.cells m.bytes c (sound.cells-sound c h) (λ f. f)
        (λ r. absurd (omega (arith, (right-mark m.cells m.bytes c r).0)))

    -- a cell that is reached is in memory, and right
    reached-right : (c : ℕ) → 0 < reached 31 v (cell_no c) → (c < cells_in m) × T (cell_right m.cells m.bytes c)
    reached-right c h =
        let (inside, fails) = counted-fails (is_free cell_start m.cells) (cells_in m) _ c (cells-sum c) h in (
          inside,
          cell-cases m.cells m.bytes c (sound.cells-sound c inside)
              (λ f. absurd (eqb-false (mark_at m.cells c) 0 fails (free-mark m.cells m.bytes c f))) (λ r. r),
        )

    pub from_view : Forest m v
    from_view =
        let (held, edges) = view-layer m right-lengths.nodes-whole sound 31 v t.holds in
        record {
          lent = sound.lent;
          rooted = sym t.rooted ∙ root-view v.0.0 v.0.1;
          held = held;
          in-edges = edges;
          at-most-once = reached-once;
          filed = good-layer m right-lengths.cells_whole v reached-right t.good.1;
          other-nodes = others-free;
          other-cells = cells_free;
        }

  pub from-trees : (w : Layered 31) → ViewIsTree m w → (v : Layers) × Forest m v × (layer_view 31 v ≡ w)
  from-trees w t =
      let (v, e) = layer-behind m right-lengths.nodes-whole sound 31 w t.holds in
      (v, from_view v (subst (ViewIsTree m) (sym e) t), e)
