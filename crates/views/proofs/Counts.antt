-- What layers reach: as often as their views do, and only what is in use. Assumes nothing.
use mathlib.Core.Path.{◌≡◌, refl, sym, ap, ap₂, ◌∙◌, subst}
use mathlib.Core.Logic.{◌⊎◌, inl, inr, ⊎_elim}
use mathlib.Core.List.{List, [], ◌∷◌, ◌++◌, map}
use Prim.Native.Nat.{ℕ, zero, suc, ◌+◌, ◌<◌}
use native.Mathlib.Omega.{arith}
use native.Mathlib.Decide.{ℕ_discrete}
use lib.Dec.{T}
use Rattle.bank.proofs.Tests.{and_left}
use Rattle.order.specs.Map.{All, a[], ◌a∷◌}
use Rattle.order.specs.Lists.{total}
use Rattle.order.proofs.Map.{all_map}
use Rattle.forest.specs.Nodes.{leaf_right, internode_right}
use Rattle.forest.specs.Cells.{cell_right, filed}
use Rattle.forest.specs.Trees.{Key, Tree, node_no, cell_no, once, nodes_of, Holds}
use Rattle.forest.specs.Layers.{Value, Layer, reached_by, reached, HeldBy, Held, FiledBy, Filed}
use Rattle.forest.proofs.Decides.{once-other}
use Rattle.trees.specs.Entries.{cell_uses}
use Rattle.trees.specs.Layers.{bare_value, bare_entry, value_reaches, layer_reaches}
use Rattle.trees.specs.WholeTree.{layer_uses}
use Rattle.views.specs.Views.{value_view, layer_view}
use Rattle.views.proofs.Lists.{map-map, total-view}
use Rattle.views.proofs.TreeViews.{cell-once, cell-no-node, count-view, no_cells}
use Rattle.views.proofs.LayerViews.{value_entry}

-- ---- nodes and cells, as often as the views reach them

nodes-by : (l : ℕ) (v : Value l) (j : ℕ) → value_reaches l (value_view l v) j ≡ reached_by l v (node_no j)
nodes-by zero c j = sym (cell-no-node c j)
nodes-by (suc l) (inl c) j = sym (cell-no-node c j)
nodes-by (suc l) (inr v) j =
    ap₂ ◌+◌ (count-view v.0.0 v.0.1 j)
    (total-view (value_entry l) (λ e. reached_by l e.1 (node_no j)) (λ e. value_reaches l e.1 j) (λ e. nodes-by l e.1 j) v.1)

pub nodes-reached : (l : ℕ) (v : Layer l) (j : ℕ) → layer_reaches l (layer_view l v) j ≡ reached l v (node_no j)
nodes-reached l v j =
    ap₂ ◌+◌ (count-view v.0.0 v.0.1 j)
    (total-view (value_entry l) (λ e. reached_by l e.1 (node_no j)) (λ e. value_reaches l e.1 j) (λ e. nodes-by l e.1 j) v.1)

cells_of : (l : ℕ) → ((v : Value l) (j : ℕ) → cell_uses l (bare_value l (value_view l v)) j ≡ reached_by l v (cell_no j)) → (v : Layer l) (j : ℕ)
    → total (λ e. cell_uses l e.1 j) (map (bare_entry l) (map (value_entry l) v.1)) ≡ reached l v (cell_no j)
cells_of l f v j =
    let own = no_cells v.0.0 v.0.1 j in
    let below =
    total-view (λ e. bare_entry l (value_entry l e)) (λ e. reached_by l e.1 (cell_no j)) (λ e. cell_uses l e.1 j) (λ e. f e.1 j)
    v.1 in
    ap (total (λ e. cell_uses l e.1 j)) (map-map (value_entry l) (bare_entry l) v.1) ∙ omega (arith, own, below)

cells-by : (l : ℕ) (v : Value l) (j : ℕ) → cell_uses l (bare_value l (value_view l v)) j ≡ reached_by l v (cell_no j)
cells-by zero c j = cell-once c j
cells-by (suc l) (inl c) j = cell-once c j
cells-by (suc l) (inr v) j = cells_of l (cells-by l) v j

pub cells-reached : (l : ℕ) (v : Layer l) (j : ℕ) → layer_uses l (layer_view l v) j ≡ reached l v (cell_no j)
cells-reached l v j = cells_of l (cells-by l) v j

-- ---- what is reached is in use

pub some_or_none : (n : ℕ) → (0 < n) ⊎ (n ≡ 0)
some_or_none zero = inr refl
some_or_none (suc n) = inl (omega arith)

-- what follows wherever one of a sum counts, follows where the sum does
total-some : {A X : Type 0} (f : A → ℕ) {xs : List A} → All (λ x. 0 < f x → X) xs → 0 < total f xs → X
total-some f a[] h = absurd (omega arith)
total-some f (◌a∷◌ {x = x} p ps) h = ⊎_elim p (λ e. total-some f ps (omega arith)) (some_or_none (f x))

once_is : (n j : ℕ) → 0 < once n j → n ≡ j
once_is n j h = go (ℕ_discrete n j)
  where
    go : Dec (n ≡ j) → n ≡ j
    go (yes e) = e
    go (no ne) = absurd (omega (arith, once-other n j ne))

sum-some : {X : Type 0} (a b : ℕ) → (0 < a → X) → (0 < b → X) → 0 < a + b → X
sum-some a b f g h = ⊎_elim f (λ e. g (omega arith)) (some_or_none a)

module _ (nodes : List ℕ) where
  abbrev pub NodeUsed : ℕ → Type 0
  NodeUsed j = T (leaf_right nodes j) ⊎ T (internode_right nodes j)

  same-node : (n j : ℕ) → NodeUsed n → 0 < once (node_no n) (node_no j) → NodeUsed j
  same-node n j used h = let e : n ≡ j = halved n j (once_is (node_no n) (node_no j) h) in subst NodeUsed e used
    where
      halved : (a b : ℕ) → node_no a ≡ node_no b → a ≡ b
      halved a b e = omega arith

  tree-used : (h : ℕ) (t : Tree h) → Holds nodes h t → (j : ℕ) → 0 < nodes_of h t (node_no j) → NodeUsed j
  tree-used zero t held j h = same-node t.0 j (inl held.0) h
  tree-used (suc n) t held j h =
      sum-some _ _ (same-node t.0 j (inr held.0))
      (total-some (λ p. nodes_of n p.1 (node_no j)) (all_map (λ p g. tree-used n p.1 g j) held.3)) h

  abbrev ValueUsed : ℕ → Type 0
  ValueUsed l = (v : Value l) → HeldBy nodes l v → (j : ℕ) → 0 < reached_by l v (node_no j) → NodeUsed j

  layer-used : (l : ℕ) → ValueUsed l → (v : Layer l) → Held nodes l v → (j : ℕ) → 0 < reached l v (node_no j) → NodeUsed j
  layer-used l f v held j h =
      sum-some _ _ (tree-used v.0.0 v.0.1 held.0 j)
      (total-some (λ e. reached_by l e.1 (node_no j)) (all_map (λ e g. f e.1 g j) held.2)) h

  value-used : (l : ℕ) → ValueUsed l
  value-used zero c held j h = absurd (omega (arith, cell-no-node c j))
  value-used (suc l) (inl c) held j h = absurd (omega (arith, cell-no-node c j))
  value-used (suc l) (inr v) held j h = layer-used l (value-used l) v held j h

  pub node-used : (l : ℕ) (v : Layer l) → Held nodes l v → (j : ℕ) → 0 < reached l v (node_no j) → NodeUsed j
  node-used l v held j h = layer-used l (value-used l) v held j h

module _ (cells bytes : List ℕ) where
  abbrev CellUsed : ℕ → Type 0
  CellUsed j = T (cell_right cells bytes j)

  filed-used : (above : List ℕ) (k : Key) (c : ℕ) → T (filed cells bytes above k.0 k.1 c) → (j : ℕ)
      → 0 < once (cell_no c) (cell_no j) → CellUsed j
  unfolding filed
  filed-used above k c t j h =
      let e : c ≡ j = halved c j (once_is (cell_no c) (cell_no j) h) in subst CellUsed e (and_left (cell_right cells bytes c) _ t)
    where
      halved : (a b : ℕ) → cell_no a ≡ cell_no b → a ≡ b
      halved a b e = omega arith

  abbrev ValueFiled : ℕ → Type 0
  ValueFiled l =
      (above : List ℕ) (k : Key) (v : Value l) → FiledBy cells bytes l above k v → (j : ℕ) → 0 < reached_by l v (cell_no j)
      → CellUsed j

  layer-filed : (l : ℕ) → ValueFiled l → (above : List ℕ) (v : Layer l) → Filed cells bytes l above v → (j : ℕ)
      → 0 < reached l v (cell_no j) → CellUsed j
  layer-filed l f above v files j h =
      total-some (λ e. reached_by l e.1 (cell_no j)) (all_map (λ e g. f above e.0 e.1 g j) files)
      (omega (arith, no_cells v.0.0 v.0.1 j))

  value-filed : (l : ℕ) → ValueFiled l
  value-filed zero above k c files j h = filed-used above k c files j h
  value-filed (suc l) above k (inl c) files j h = filed-used above k c files j h
  value-filed (suc l) above k (inr v) files j h = layer-filed l (value-filed l) (above ++ k.0 ∷ []) v files j h

  pub cell-used : (l : ℕ) (above : List ℕ) (v : Layer l) → Filed cells bytes l above v → (j : ℕ) → 0 < reached l v (cell_no j)
      → CellUsed j
  cell-used l above v files j h = layer-filed l (value-filed l) above v files j h
