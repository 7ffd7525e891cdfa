-- The search of one layer: the leaf that lent memory leads to, the position in it, and what the layer's entries have. Assumes nothing.
use mathlib.Core.Path.{◌≡◌, sym, ap, ◌∙◌, subst}
use mathlib.Core.Logic.{⊎_elim}
use mathlib.Core.List.{List}
use Prim.Native.Nat.{ℕ, suc, ◌+◌, ◌*◌, ◌≤◌, ◌<◌}
use native.Mathlib.Omega.{arith}
use lib.ListN.{length, get_or-eq_default}
use Rattle.leaf.specs.Search.{place_equal}
use Rattle.arena.specs.Layout.{node_start}
use Rattle.arena.specs.Memory.{Memory}
use Rattle.arena.proofs.Words.{lt-or-ge}
use Rattle.forest.specs.Nodes.{entries_at}
use Rattle.forest.specs.Walk.{height_at}
use Rattle.model.specs.Down.{leaf_for, leaf_in}
use Rattle.order.specs.Map.{All, lookup, Sorted}
use Rattle.order.specs.Options.{map_option}
use Rattle.trees.specs.Nodes.{IkeyClass, layer_order, NodeList, node_in, leaf_entries}
use Rattle.trees.specs.Tree.{any_reaches}
use Rattle.trees.specs.FindInMemory.{height_from, memory_find}
use Rattle.trees.specs.Layers.{Pointer, Layered, layer_root, pointer_of, HoldsLayer}
use Rattle.trees.proofs.Relinked.{layer-found}
use Rattle.views.specs.Views.{node_view, nodes_view}
use Rattle.views.proofs.Nodes.{nodes_in, node-at, node-beyond, free-view}
use Rattle.views.proofs.LayerViews.{right_edge}
use Rattle.views.proofs.Heights.{root-height}
use Rattle.places.proofs.Entries.{view_all, Fine, at_place, place_view, all-fine}
use Rattle.places.proofs.Down.{Leads, leads, leaf-words, LeafIn, lead-leaf, lead-found}

module _ (m : Memory) (whole : length m.nodes ≡ 2 + nodes_in m * 47) where
  -- what stands at each number of a node, in memory or beyond
  pub seen-node : (k : ℕ) → node_in (nodes_view m) k ≡ node_view m.nodes k
  seen-node k =
      ⊎_elim (λ h. node-at m k h)
      (λ h. node-beyond m k h ∙ sym (free-view m.nodes k (get_or-eq_default m.nodes 0 {n = node_start k} (omega arith))))
      (lt-or-ge k (nodes_in m))

module _ (m : Memory) (whole : length m.nodes ≡ 2 + nodes_in m * 47) (few : nodes_in m ≤ 255) where
  abbrev nodes : List ℕ
  nodes = m.nodes

  abbrev M : NodeList Pointer
  M = nodes_view m

  seen : (k : ℕ) → node_in (nodes_view m) k ≡ node_view m.nodes k
  seen = seen-node m whole

  -- an ikey leads from the root of a layer to this leaf
  pub record Looked (l : ℕ) (v : Layered l) (ikey : ℕ) : Type 0 where
    pub tall : height_at nodes 255 (layer_root l v) ≡ v.0.0
    pub leading : Leads (suc ikey) v.0.0 v.0.1 (leaf_in nodes (layer_root l v) ikey)
    pub right : LeafIn M 15 (leaf_in nodes (layer_root l v) ikey)
    pub words : view_all (entries_at nodes (leaf_in nodes (layer_root l v) ikey)) ≡ right.has
    pub fine : All Fine (entries_at nodes (leaf_in nodes (layer_root l v) ikey))
    pub rises : Sorted layer_order (view_all (entries_at nodes (leaf_in nodes (layer_root l v) ikey)))

  pub looks : (l : ℕ) (v : Layered l) (ikey : ℕ) → HoldsLayer 15 right_edge l M v → ((j : ℕ) → any_reaches Pointer v.0 j ≤ 1)
      → Looked l v ikey
  unfolding leaf_in
  looks l v ikey H u =
      let d = v.0.0 in
      let t = v.0.1 in
      let tall : height_at nodes 255 (layer_root l v) ≡ d =
      root-height m whole few v.0 H.0 u ∙ (layer-found 15 0 (λ e. 0) right_edge l M v (0, 0) (omega arith) H u).0 in
      let leading : Leads (suc ikey) d t (leaf_for nodes (height_at nodes 255 (layer_root l v)) (layer_root l v) ikey) =
      subst (λ (h : ℕ). Leads (suc ikey) d t (leaf_for nodes h (layer_root l v) ikey)) (sym tall)
      (leads nodes M seen 15 ikey d 0 right_edge t H.0.0 H.0.1) in
      let n = leaf_for nodes (height_at nodes 255 (layer_root l v)) (layer_root l v) ikey in
      let right : LeafIn M 15 n = lead-leaf M 15 (suc ikey) d 0 right_edge n t H.0.0 H.0.1 leading in
      let words : view_all (entries_at nodes n) ≡ right.has = (leaf-words nodes M seen n right.has right.is_leaf).1 in
      record {
        tall = tall;
        leading = leading;
        right = right;
        words = words;
        fine = all-fine (entries_at nodes n) (subst (All (λ e. e.0.1 ≤ 9)) (sym words) right.classes);
        rises = subst (Sorted layer_order) (sym words) right.sorted;
      }

  module _ (l : ℕ) (v : Layered l) (ikey class : ℕ) (H : HoldsLayer 15 right_edge l M v) (u : (j : ℕ) → any_reaches Pointer v.0 j ≤ 1)
      (small : suc ikey < right_edge) where
    abbrev its-leaf : ℕ
    its-leaf = leaf_in nodes (layer_root l v) ikey

    -- the trees' search is a lookup in the entries of the leaf
    pub leaf-view : lookup layer_order (suc ikey, class) (view_all (entries_at nodes (leaf_in nodes (layer_root l v) ikey)))
        ≡ memory_find Pointer (height_from (length M) M (layer_root l v)) (suc ikey, class) (0, layer_root l v) M
    leaf-view =
        let L = looks l v ikey H u in
        let (e, f, g) = layer-found 15 0 (λ e. 0) right_edge l M v (suc ikey, class) small H u in
        ap (λ (es : List (IkeyClass × Pointer)). lookup layer_order (suc ikey, class) es)
        (L.words ∙ sym (ap leaf_entries L.right.is_leaf))
        ∙ sym (lead-found M 15 (suc ikey, class) v.0.0 its-leaf (0, v.0.1) H.0.1 L.leading)
        ∙ f ∙ sym g ∙ ap (λ (d : ℕ). memory_find Pointer d (suc ikey, class) (0, layer_root l v) M) (sym e)

    -- so a position is below the length exactly where that search finds something, and then the entry there has it
    pub place_found : at_place (entries_at nodes (leaf_in nodes (layer_root l v) ikey))
        (place_equal ikey class (entries_at nodes (leaf_in nodes (layer_root l v) ikey)))
        ≡ memory_find Pointer (height_from (length M) M (layer_root l v)) (suc ikey, class) (0, layer_root l v) M
    place_found = let L = looks l v ikey H u in sym (place_view ikey class L.fine L.rises) ∙ leaf-view

    -- and it is what the layer's entry has
    pub entry-view : at_place (entries_at nodes (leaf_in nodes (layer_root l v) ikey))
        (place_equal ikey class (entries_at nodes (leaf_in nodes (layer_root l v) ikey)))
        ≡ map_option (pointer_of l) (lookup layer_order (suc ikey, class) v.1)
    entry-view =
        let (e, f, g) = layer-found 15 0 (λ e. 0) right_edge l M v (suc ikey, class) small H u in
        place_found ∙ ap (λ (d : ℕ). memory_find Pointer d (suc ikey, class) (0, layer_root l v) M) e ∙ g
