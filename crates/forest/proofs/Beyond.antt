-- Layers that memory has reach nothing past the numbers of its nodes and cells: node k is 2k, cell c is 2c + 1. Assumes nothing.
use mathlib.Core.Path.{◌≡◌, refl}
use mathlib.Core.Logic.{inl, inr}
use mathlib.Core.List.{List, [], ◌∷◌, ◌++◌}
use Prim.Native.Nat.{ℕ, zero, suc, ◌+◌, ◌*◌, ◌≤◌, ◌<◌}
use native.Mathlib.Omega.{arith}
use lib.Dec.{T}
use lib.ListN.{length}
use Rattle.order.specs.Map.{All, a[], ◌a∷◌}
use Rattle.order.specs.Lists.{total}
use Rattle.order.proofs.Map.{all_map, all-zip}
use Rattle.arena.specs.Memory.{Memory}
use Rattle.forest.specs.Cells.{filed}
use Rattle.forest.specs.Trees.{Key, Tree, node_no, cell_no, once, nodes_of, Holds}
use Rattle.forest.specs.Layers.{Value, Layer, reached_by, reached, HeldBy, Held, FiledBy, Filed}
use Rattle.forest.proofs.Decides.{once-other}
use Rattle.forest.proofs.Inside.{leaf-inside, internode-inside, filed-inside}

total-none : {A : Type 0} (f : A → ℕ) {xs : List A} → All (λ x. f x ≡ 0) xs → total f xs ≡ 0
total-none f a[] = refl
total-none f (e a∷ es) = omega (arith, total-none f es)

module _ (m : Memory) (N C : ℕ) (nodes-whole : length m.nodes ≡ 2 + N * 47) (cells_Whole : length m.cells ≡ C * 2)
    (i : ℕ) (past-nodes : node_no N ≤ i) (past-cells : node_no C ≤ i) where
  node-none : (k : ℕ) → k < N → once (node_no k) i ≡ 0
  node-none k h = once-other (node_no k) i (λ e. omega arith)

  cell-none : (above : List ℕ) (k : Key) (c : ℕ) → T (filed m.cells m.bytes above k.0 k.1 c)
      → once (cell_no c) i ≡ 0
  cell-none above k c t =
      let inside : c < C = filed-inside m.cells m.bytes above k.0 k.1 c C cells_Whole t in
      once-other (cell_no c) i (λ e. omega arith)

  tree-none : (h : ℕ) (t : Tree h) → Holds m.nodes h t → nodes_of h t i ≡ 0
  tree-none zero t held = node-none t.0 (leaf-inside m.nodes N nodes-whole t.0 held.0)
  tree-none (suc h) t held =
      omega (
        arith,
        node-none t.0 (internode-inside m.nodes N nodes-whole t.0 held.0),
        total-none (λ p. nodes_of h p.1 i) (all_map (λ p. tree-none h p.1) held.3),
      )

  value_none : (l : ℕ) (above : List ℕ) (k : Key) (v : Value l) → HeldBy m.nodes l v
      → FiledBy m.cells m.bytes l above k v → reached_by l v i ≡ 0
  value_none zero above k c held f = cell-none above k c f
  value_none (suc l) above k (inl c) held f = cell-none above k c f
  value_none (suc l) above k (inr v) held f =
      omega (
        arith,
        tree-none v.0.0 v.0.1 held.0,
        total-none (λ e. reached_by l e.1 i) (all-zip (λ e. value_none l (above ++ k.0 ∷ []) e.0 e.1) held.2 f),
      )

  pub layer-none : (l : ℕ) (above : List ℕ) (v : Layer l) → Held m.nodes l v
      → Filed m.cells m.bytes l above v → reached l v i ≡ 0
  layer-none l above v held f =
      omega (
        arith,
        tree-none v.0.0 v.0.1 held.0,
        total-none (λ e. reached_by l e.1 i) (all-zip (λ e. value_none l above e.0 e.1) held.2 f),
      )
