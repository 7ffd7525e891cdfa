-- The trees' removal of a key that has a place: the leaf there without the entry, and all else as it was. Assumes nothing.
use mathlib.Core.Path.{◌≡◌, refl, sym, ap, ap₂, ◌∙◌, subst}
use mathlib.Core.Logic.{inl, inr}
use mathlib.Core.List.{List, map}
use mathlib.Core.Option.{Option, none, some}
use Prim.Native.Nat.{ℕ, zero, suc, ◌*◌, ◌≤◌, ◌<◌, ◌+◌}
use native.Mathlib.Omega.{arith}
use lib.Dec.{T}
use lib.ListN.{length, set}
use Rattle.order.specs.Layer.{ikey_at, class_at}
use Rattle.leaf_entries.specs.declared.Entry.{Entry}
use Rattle.leaf.specs.Search.{place_equal}
use Rattle.arena.specs.Memory.{Memory}
use Rattle.forest.specs.Nodes.{entries_at}
use Rattle.model.specs.Down.{leaf_in}
use Rattle.model.specs.Calls.{is_stored}
use Rattle.model.specs.declared.Met.{Met}
use Rattle.model.specs.declared.Met.TheVariants.{Stored, Conflict, Missing}
use Rattle.trees.specs.Nodes.{IkeyClass, layer_order, leaf, NodeList, node_in, leaf_entries}
use Rattle.trees.specs.Tree.{any_reaches}
use Rattle.trees.specs.PutInMemory.{memory_with_root, layer_put}
use Rattle.trees.specs.FindInMemory.{height_from, memory_find}
use Rattle.trees.specs.Paths.{rest_below, BelowLinks, layer_key, key_below}
use Rattle.trees.specs.Entries.{RightLayer, RightValue}
use Rattle.trees.specs.Layers.{Pointer, cell, LayeredValue, Layered, bare_value, bare_entry, layer_root, pointer_of, value_reaches, layer_reaches}
use Rattle.trees.specs.Layers.{HoldsValue, HoldsLayer}
use Rattle.trees.specs.LayersFound.{layers_remove}
use Rattle.trees.proofs.Nodes.{layer-order}
use Rattle.trees.proofs.OneLayer.{lows-agree}
use Rattle.trees.proofs.Paths.{raised_ikey-lt, bytes_rest, layer_key-at}
use Rattle.trees.proofs.EntriesPut.{below-one-more}
use Rattle.trees.proofs.Relinked.{layer-found}
use Rattle.order.specs.Map.{alter, lookup, Sorted}
use Rattle.order.proofs.Map.{alter-sorted}
use Rattle.order.specs.Options.{map_option, worth}
use Rattle.order.proofs.Changes.{worth-le, lookup-map, lookup-all, delete-shorter}
use Rattle.views.specs.Views.{nodes_view}
use Rattle.views.proofs.Nodes.{nodes_in}
use Rattle.views.proofs.LayerViews.{right_edge}
use Rattle.places.proofs.Entries.{view_all, alter-taken}
use Rattle.places.proofs.Looks.{Looked, looks}
use Rattle.places.proofs.OneLeaf.{put-stays}
use Rattle.places.proofs.Meets.{Entered, Way, missing, conflict, below}
use Rattle.places.proofs.Meets as way
use Rattle.places.proofs.Taken.{without_at}

module _ (m : Memory) where
  -- the leaf with what is left
  abbrev pub left_at : ℕ → ℕ → NodeList Pointer
  left_at lf p = set (nodes_view m) lf (leaf (view_all (without_at p (entries_at m.nodes lf))))

  -- position p of leaf lf can go
  pub record MayGo (lf p : ℕ) : Type 0 where
    pub had : List (IkeyClass × Pointer)
    pub is_leaf : node_in (nodes_view m) lf ≡ leaf had
    pub inside : p < length (entries_at m.nodes lf)
    pub left-sorted : Sorted layer_order (view_all (without_at p (entries_at m.nodes lf)))

  -- memory as the trees have it, without the entry at a place
  abbrev pub seen_without : Met → NodeList Pointer
  seen_without (Stored lf p c) = left_at lf p
  seen_without (Conflict lf p c links) = nodes_view m
  seen_without (Missing holder root links) = nodes_view m

  abbrev pub GoesAt : Met → Type 0
  GoesAt (Stored lf p c) = MayGo lf p
  GoesAt (Conflict lf p c links) = Unit {0}
  GoesAt (Missing holder root links) = Unit {0}

module _ (m : Memory) (K : List ℕ) (whole : length m.nodes ≡ 2 + nodes_in m * 47) (few : nodes_in m ≤ 255)
    (mid : ℕ) (cut : List (IkeyClass × Pointer) → ℕ) (at : ℕ → List ℕ × ℕ) where
  abbrev M : NodeList Pointer
  M = nodes_view m

  module _ (l : ℕ) (v : Layered l) (H : HoldsLayer 15 right_edge l M v) (u : (j : ℕ) → any_reaches Pointer v.0 j ≤ 1) (links : ℕ) where
    abbrev its-ikey : ℕ
    its-ikey = ikey_at K (8 * links)

    abbrev its-class : ℕ
    its-class = class_at K (8 * links)

    abbrev its-leaf : ℕ
    its-leaf = leaf_in m.nodes (layer_root l v) its-ikey

    abbrev its-entries : List Entry
    its-entries = entries_at m.nodes its-leaf

    looked : Looked m whole few l v its-ikey
    looked = looks m whole few l v its-ikey H u

    entries-seen : leaf_entries (node_in M its-leaf) ≡ view_all its-entries
    entries-seen = ap leaf_entries looked.right.is_leaf ∙ sym looked.words

    abbrev Gone : ℕ → ℕ → Type 0
    Gone lf p = (layer_put Pointer 15 mid cut v.0.0 (key_below K links) (λ o. none) (layer_root l v) M ≡ (layer_root l v, left_at m lf p))
        × MayGo m lf p

    gone-here : place_equal its-ikey its-class its-entries < length its-entries → Gone its-leaf (place_equal its-ikey its-class its-entries)
    gone-here h =
        let k = key_below K links in
        let d = v.0.0 in
        let q : alter layer_order k (λ (o : Option Pointer). none) (leaf_entries (node_in M its-leaf))
        ≡ view_all (without_at (place_equal its-ikey its-class its-entries) its-entries) =
        ap (alter layer_order k (λ (o : Option Pointer). none)) entries-seen
        ∙ alter-taken its-ikey its-class looked.fine looked.rises h in
        let few-left : length (alter layer_order k (λ (o : Option Pointer). none) (leaf_entries (node_in M its-leaf))) ≤ 15 =
        omega (
          arith,
          delete-shorter layer_order k (leaf_entries (node_in M its-leaf)),
          looked.right.short,
          ap (λ x. length (leaf_entries x)) looked.right.is_leaf,
        ) in
        let e = put-stays M 15 mid cut k (λ o. none) its-leaf few-left d 0 right_edge (0, v.0.1) H.0.0
        (lows-agree Pointer 15 0 (λ e. 0) right_edge d 0 right_edge v.0.1 H.0.0) H.0.1 u looked.leading in (
          ap (λ (b : List (ℕ × ℕ) × NodeList Pointer). memory_with_root Pointer b.0 b.1) e
              ∙ ap (λ (xs : List (IkeyClass × Pointer)). (layer_root l v, set M its-leaf (leaf xs))) q,
          record {
            had = looked.right.has;
            is_leaf = looked.right.is_leaf;
            inside = h;
            left-sorted = subst (Sorted layer_order) (alter-taken its-ikey its-class looked.fine looked.rises h)
                (alter-sorted layer-order k (λ o. none) looked.rises);
          },
        )

    gone : (lf p : ℕ) (x : Pointer) → Entered m K (layer_root l v) links lf p x → Gone lf p
    gone lf p x E =
        subst (λ (lf : ℕ). (p : ℕ) → p ≡ place_equal its-ikey its-class (entries_at m.nodes lf) → p < length (entries_at m.nodes lf)
        → Gone lf p) (sym E.leaf-is)
        (λ p e h. subst (λ (p : ℕ). p < length its-entries → Gone its-leaf p) (sym e) gone-here h) p E.place_is E.inside

  module _ (l : ℕ) (v : Layered l) (ks : List ℕ) (uk : BelowLinks ks K) (H : HoldsLayer 15 right_edge l M v)
      (u : (j : ℕ) → layer_reaches l v j ≤ 1) where
    key-small : (layer_key ks K).0 < right_edge
    unfolding layer_key
    key-small = raised_ikey-lt (bytes_rest ks K uk)

    high-layer : height_from (length M) M (layer_root l v) ≡ v.0.0
    high-layer = (layer-found 15 0 (λ e. 0) right_edge l M v (layer_key ks K) key-small H (λ j. omega (arith, u j))).0

    found-layer : (x : LayeredValue l) → lookup layer_order (layer_key ks K) v.1 ≡ some x
        → memory_find Pointer (height_from (length M) M (layer_root l v)) (layer_key ks K) (0, layer_root l v) M ≡ some (pointer_of l x)
    found-layer x q =
        ap (λ (d : ℕ). memory_find Pointer d (layer_key ks K) (0, layer_root l v) M) high-layer
        ∙ (layer-found 15 0 (λ e. 0) right_edge l M v (layer_key ks K) key-small H (λ j. omega (arith, u j))).2
        ∙ ap (map_option (pointer_of l)) q

    pub gone-layer : (lf p : ℕ) (x : Pointer) → Entered m K (layer_root l v) (length ks) lf p x
        → (layer_put Pointer 15 mid cut (height_from (length M) M (layer_root l v)) (layer_key ks K) (λ o. none) (layer_root l v) M
        ≡ (layer_root l v, left_at m lf p)) × MayGo m lf p
    gone-layer lf p x E =
        let (e, f) = gone l v H (λ j. omega (arith, u j)) (length ks) lf p x E in (
          ap₂ (λ (d : ℕ) (k : IkeyClass). layer_put Pointer 15 mid cut d k (λ o. none) (layer_root l v) M) high-layer
              (layer_key-at ks K (length ks) refl) ∙ e,
          f,
        )

  pub way-removed : {l : ℕ} {v : Layered l} {ks : List ℕ} {holder : ℕ} {o : Met} → Way m K l v ks holder o → T (is_stored o)
      → BelowLinks ks K → HoldsLayer 15 right_edge l M v
      → RightLayer at l ks (map (bare_entry l) v.1) → ((j : ℕ) → layer_reaches l v j ≤ 1)
      → (layers_remove 15 mid cut at K l ks (layer_root l v) M ≡ (layer_root l v, seen_without m o)) × GoesAt m o
  way-removed (missing l v ks holder q) t uk H G u = absurd t
  way-removed (conflict l v ks holder lf p c q E w n) t uk H G u = absurd t
  way-removed (way.stored zero v ks holder lf p c q E w e) t uk H G u = gone-layer zero v ks uk H u lf p (cell c) E
  way-removed (way.stored (suc l) v ks holder lf p c q E w e) t uk H G u =
      let (a, b) = gone-layer (suc l) v ks uk H u lf p (cell c) E in
      (rw (found-layer (suc l) v ks uk H u (inl c) q) a, b)
  way-removed (below l v ks holder lf p x o q E rest_below) t uk H G u =
      let k = layer_key ks K in
      let g = lookup-all layer_order k layer-order (RightValue at (suc l) ks) G.1 (bare_value (suc l) (inr x))
      (lookup-map layer_order k (bare_value (suc l)) v.1 ∙ ap (map_option (bare_value (suc l))) q) in
      let h = lookup-all layer_order k layer-order (λ k v. HoldsValue 15 right_edge M (suc l) v) H.2 (inr x) q in
      let (a, b) = way-removed rest_below t (below-one-more ks k.0 K uk (ap (λ (y : ℕ). (k.0, y)) g.0)) h (g.1, g.2)
      (λ j. omega (
        arith,
        u j,
        worth-le layer_order k (λ x. value_reaches (suc l) x j) v.1,
        ap (worth (λ x. value_reaches (suc l) x j)) q,
      )) in
      (rw (found-layer (suc l) v ks uk H u (inr x) q) (ap (λ (r : ℕ × NodeList Pointer). (layer_root (suc l) v, r.1)) a), b)
