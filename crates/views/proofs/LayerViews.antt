-- Layers and their views: memory has the one within its edges exactly where its view has the other. Assumes nothing.
use mathlib.Core.Path.{◌≡◌, refl, sym, ap, ◌∙◌}
use mathlib.Core.Logic.{inl, inr}
use mathlib.Core.List.{List, [], ◌∷◌, map}
use Prim.Native.Nat.{ℕ, zero, suc, ◌+◌, ◌*◌, ◌^◌}
use lib.ListN.{length}
use Rattle.order.specs.Map.{All, a[], ◌a∷◌}
use Rattle.order.proofs.Map.{all_map, all-zip}
use Rattle.arena.specs.Memory.{Memory}
use Rattle.forest.specs.Trees.{Key, Ref, link, entries_of}
use Rattle.forest.specs.Layers.{Value, Layer, ref_of, HeldBy, Held, InEdgesBy, InEdges}
use Rattle.trees.specs.Nodes.{IkeyClass}
use Rattle.trees.specs.Tree.{tree_entries}
use Rattle.trees.specs.Layers.{Pointer, LayeredValue, Layered, pointer_of, pointer_entry, HoldsValue, HoldsLayer}
use Rattle.views.specs.Views.{key_view, ref_view, entry_view, nodes_view, value_view, layer_view, Sound}
use Rattle.views.proofs.Lists.{map-map, map_same, heads, tails, nil-not-cons, all-to, all_from, unmap}
use Rattle.views.proofs.Entries.{entries-exact}
use Rattle.views.proofs.Nodes.{nodes_in}
use Rattle.views.proofs.TreeViews.{root-view, list-view, holds-view, wf-view, bounded-view, view-holds, tree-behind}

-- right of all ikeys
abbrev pub right_edge : ℕ
right_edge = suc (256 ^ 8)

-- an entry beside what it has
abbrev pub value_entry : (l : ℕ) → Key × Value l → IkeyClass × LayeredValue l
value_entry l e = (key_view e.0, value_view l e.1)

abbrev pub as_refs : (l : ℕ) → List (Key × Value l) → List (Key × Ref)
as_refs l es = map (λ e. (e.0, ref_of l e.1)) es

pub pointer-view : (l : ℕ) (v : Value l) → pointer_of l (value_view l v) ≡ ref_view (ref_of l v)
pointer-view zero c = refl
pointer-view (suc l) (inl c) = refl
pointer-view (suc l) (inr v) = ap (λ (n : ℕ). ref_view (link n)) (root-view v.0.0 v.0.1)

pub pointers-view : (l : ℕ) (es : List (Key × Value l)) → map (pointer_entry l) (map (value_entry l) es) ≡ map entry_view (as_refs l es)
pointers-view l es =
    map-map (value_entry l) (pointer_entry l) es ∙ map_same (λ e i. (key_view e.0, pointer-view l e.1 i)) es
    ∙ sym (map-map (λ e. (e.0, ref_of l e.1)) entry_view es)

module _ (m : Memory) (whole : length m.nodes ≡ 2 + nodes_in m * 47) where
  -- ---- what memory has, its view has

  abbrev ValueTo : ℕ → Type 0
  ValueTo l = (v : Value l) → HeldBy m.nodes l v → InEdgesBy l v → HoldsValue 15 right_edge (nodes_view m) l (value_view l v)

  layer-to : (l : ℕ) → ValueTo l → (v : Layer l) → Held m.nodes l v → InEdges l v
      → HoldsLayer 15 right_edge l (nodes_view m) (layer_view l v)
  layer-to l f v held edges =
      let h = v.0.0 in
      let t = v.0.1 in (
        (wf-view m whole h 0 right_edge t held.0 edges.0, holds-view m whole h t held.0),
        list-view h t ∙ ap (map entry_view) held.1 ∙ sym (pointers-view l v.1),
        all-to (value_entry l) (λ e p. p) (all-zip (λ e. f e.1) held.2 edges.1),
      )

  value-to : (l : ℕ) → ValueTo l
  value-to zero c held edges = tt
  value-to (suc l) (inl c) held edges = tt
  value-to (suc l) (inr v) held edges = layer-to l (value-to l) v held edges

  pub layer-view : (l : ℕ) (v : Layer l) → Held m.nodes l v → InEdges l v → HoldsLayer 15 right_edge l (nodes_view m) (layer_view l v)
  layer-view l v held edges = layer-to l (value-to l) v held edges

  -- ---- and back, where each node is right by itself

  module _ (sound : Sound m) where
    abbrev ValueFrom : ℕ → Type 0
    ValueFrom l = (v : Value l) → HoldsValue 15 right_edge (nodes_view m) l (value_view l v) → HeldBy m.nodes l v × InEdgesBy l v

    layer-from : (l : ℕ) → ValueFrom l → (v : Layer l) → HoldsLayer 15 right_edge l (nodes_view m) (layer_view l v)
        → Held m.nodes l v × InEdges l v
    layer-from l f v has =
        let h = v.0.0 in
        let t = v.0.1 in
        let both : All (λ e. HeldBy m.nodes l e.1 × InEdgesBy l e.1) v.1 =
        all_from (value_entry l) (λ e. f e.1) v.1 has.2 in (
          (
            view-holds m whole sound h t has.0.1,
            entries-exact (entries_of h t) (as_refs l v.1) (sym (list-view h t) ∙ has.1 ∙ pointers-view l v.1),
            all_map (λ e p. p.0) both,
          ),
          (bounded-view h 0 right_edge t has.0.0, all_map (λ e p. p.1) both),
        )

    value-from : (l : ℕ) → ValueFrom l
    value-from zero c has = (tt, tt)
    value-from (suc l) (inl c) has = (tt, tt)
    value-from (suc l) (inr v) has = layer-from l (value-from l) v has

    pub view-layer : (l : ℕ) (v : Layer l) → HoldsLayer 15 right_edge l (nodes_view m) (layer_view l v) → Held m.nodes l v × InEdges l v
    view-layer l v has = layer-from l (value-from l) v has

    -- ---- layers that the view has are a view

    keys-behind : (l : ℕ) (xs : List (Key × Ref)) (es : List (IkeyClass × LayeredValue l)) → map entry_view xs ≡ map (pointer_entry l) es
        → All (λ e. (k : Key) × (key_view k ≡ e.0)) es
    keys-behind l xs [] q = a[]
    keys-behind l [] (e ∷ es) q = nil-not-cons q
    keys-behind l (x ∷ xs) (e ∷ es) q =
        (x.0, ap (λ (y : IkeyClass × Pointer). y.0) (heads q)) a∷ keys-behind l xs es (tails q)

    abbrev ValueBehind : ℕ → Type 0
    ValueBehind l = (w : LayeredValue l) → HoldsValue 15 right_edge (nodes_view m) l w → (v : Value l) × (value_view l v ≡ w)

    behind : (l : ℕ) → ValueBehind l → (w : Layered l) → HoldsLayer 15 right_edge l (nodes_view m) w → (v : Layer l) × (layer_view l v ≡ w)
    behind l f w has =
        let h = w.0.0 in
        let (u, q) = tree-behind m whole sound h w.0.1 has.0.1 in
        let listed : map entry_view (entries_of h u) ≡ map (pointer_entry l) w.1 =
        sym (list-view h u) ∙ ap (tree_entries Pointer h) q ∙ has.1 in
        let (es, r) = unmap (value_entry l) (all-zip (λ e a b.
        let (v, s) = f e.1 b in ((a.0, v), λ i. (a.1 i, s i))) (keys-behind l (entries_of h u) w.1 listed) has.2) in
        (((h, u), es), λ i. ((h, q i), r i))

    value-behind : (l : ℕ) → ValueBehind l
    value-behind zero c has = (c, refl)
    value-behind (suc l) (inl c) has = (inl c, refl)
    value-behind (suc l) (inr w) has = let (v, q) = behind l (value-behind l) w has in (inr v, ap inr q)

    pub layer-behind : (l : ℕ) (w : Layered l) → HoldsLayer 15 right_edge l (nodes_view m) w → (v : Layer l) × (layer_view l v ≡ w)
    layer-behind l w has = behind l (value-behind l) w has
