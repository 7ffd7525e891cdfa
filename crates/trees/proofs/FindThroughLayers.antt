-- The search and the listing through the layers are those of the entries. Assumes nothing.
use mathlib.Core.List.{List, [], ◌∷◌, ◌++◌, map, map-append}
use mathlib.Core.Logic.{inl, inr}
use mathlib.Core.Option.{Option, none, some}
use mathlib.Core.Path.{◌≡◌, refl, sym, ap, ◌∙◌, ap₂}
use Prim.Native.Nat.{ℕ, ◌≤◌, ◌<◌, zero, suc}
use native.Mathlib.Omega.{arith}
use lib.ListN.{length}
use Rattle.order.specs.Bytes.{Bytes}
use Rattle.order.specs.Lists.{total, flattened}
use Rattle.order.specs.Map.{All, a[], ◌a∷◌, lookup}
use Rattle.order.specs.Options.{map_option, worth}
use Rattle.order.proofs.Changes.{worth-le, lookup-map, lookup-all}
use Rattle.trees.specs.Nodes.{IkeyClass, layer_order, NodeList}
use Rattle.trees.specs.Tree.{numbered, LowsAgree, TreeOver, tree_root, tree_entries, HoldsTree}
use Rattle.trees.specs.FindInMemory.{height_from, memory_find, memory_entries}
use Rattle.trees.specs.Paths.{raised_ikey, rest_below, BelowLinks, layer_key, path_down}
use Rattle.trees.specs.Entries.{RightLayer, value_listing, entry_listing, RightValue}
use Rattle.trees.specs.EntriesFound.{through, cell_asked, value_find, entries_find}
use Rattle.trees.specs.Layers.{Pointer, LayeredValue, Layered, bare_value, bare_entry, layer_root, pointer_of, pointer_entry, value_reaches}
use Rattle.trees.specs.Layers.{layer_reaches, HoldsValue, HoldsLayer}
use Rattle.trees.specs.LayersPut.{by_pointer}
use Rattle.trees.specs.LayersFound.{layers_find, layers_cells}
use Rattle.trees.proofs.Nodes.{layer-order}
use Rattle.trees.proofs.PutInMemory.{children-of-internode}
use Rattle.trees.proofs.FindInTree.{height_from-is}
use Rattle.trees.proofs.OneLayer.{lows-agree}
use Rattle.trees.proofs.Depth.{height-below-length}
use Rattle.trees.proofs.Paths.{bytes_rest}
use Rattle.trees.proofs.EntriesPut.{below-one-more}
use Rattle.trees.proofs.Relinked.{layer-found}

module _ (W : Type 0) (top : ℕ) where
  flattened-map : {A B C : Type 0} (g : A → B) (f : B → List C) (h : A → List C) {l : List A} → All (λ x. f (g x) ≡ h x) l
      → flattened f (map g l) ≡ flattened h l
  flattened-map g f h a[] = refl
  flattened-map g f h (q a∷ qs) = ap₂ ◌++◌ q (flattened-map g f h qs)

  pub memory_entries-is : (m : NodeList W) (d : ℕ) (p : ℕ × TreeOver W d) → HoldsTree W m d p.1 → LowsAgree W d p
      → memory_entries W d (numbered (tree_root W d) p) m ≡ tree_entries W d p.1
  memory_entries-is m zero p h l = rw h
  memory_entries-is m (suc d) p h l = rw (h.0, children-of-internode W top 0 (λ e. 0) p.0 d p.1.1 l.0 l.1)
      (flattened-map (numbered (tree_root W d)) (λ q. memory_entries W d q m) (λ (q : ℕ × TreeOver W d). tree_entries W d q.1)
      (go h.1 l.2 (memory_entries-is m d)))
    where
      go : {ps : List (ℕ × TreeOver W d)} → All (λ p. HoldsTree W m d p.1) ps → All (LowsAgree W d) ps
          → ((p : ℕ × TreeOver W d) → HoldsTree W m d p.1 → LowsAgree W d p
          → memory_entries W d (numbered (tree_root W d) p) m ≡ tree_entries W d p.1)
          → All (λ p. memory_entries W d (numbered (tree_root W d) p) m ≡ tree_entries W d p.1) ps
      go a[] a[] f = a[]
      go (◌a∷◌ {x = p} h hs) (l a∷ ls) f = f p h l a∷ go hs ls f

module _ (top mid : ℕ) (cut : List (IkeyClass × Pointer) → ℕ) (hi : ℕ) (at : ℕ → List ℕ × ℕ) where
  module _ (hi-ok : (K : List ℕ) → Bytes K → raised_ikey K < hi) where
    key< : (ks : List ℕ) (K : List ℕ) → BelowLinks ks K → (layer_key ks K).0 < hi
    unfolding layer_key
    key< ks K u = hi-ok (rest_below ks K) (bytes_rest ks K u)

    pub layers_find-is : (K : List ℕ) (l : ℕ) (ks : List ℕ) (m : NodeList Pointer) (v : Layered l) → BelowLinks ks K
        → HoldsLayer top hi l m v → RightLayer at l ks (map (bare_entry l) v.1) → ((j : ℕ) → layer_reaches l v j ≤ 1)
        → layers_find at K l ks (layer_root l v) m ≡ entries_find at K l ks (map (bare_entry l) v.1)
    layers_find-is K zero ks m v uk H G u =
        let L = layer-found top mid cut hi zero m v (layer_key ks K) (key< ks K uk) H (λ j. omega (arith, u j)) in
        ap (through (by_pointer (cell_asked at K) (λ q. none)))
        (ap (λ d. memory_find Pointer d (layer_key ks K) (0, layer_root zero v) m) L.0 ∙ L.2)
        ∙ go (lookup layer_order (layer_key ks K) v.1)
        ∙ ap (through (value_find at K zero ks)) (sym (lookup-map layer_order (layer_key ks K) (bare_value zero) v.1))
      where
        go : (o : Option ℕ) → through (by_pointer (cell_asked at K) (λ q. none)) (map_option (pointer_of zero) o)
            ≡ through (value_find at K zero ks) (map_option (bare_value zero) o)
        go none = refl
        go (some b) = refl
    layers_find-is K (suc l) ks m v uk H G u =
        let L = layer-found top mid cut hi (suc l) m v (layer_key ks K) (key< ks K uk) H (λ j. omega (arith, u j)) in
        ap (through (by_pointer (cell_asked at K) (λ q. layers_find at K l (path_down K ks) q m)))
        (ap (λ d. memory_find Pointer d (layer_key ks K) (0, layer_root (suc l) v) m) L.0 ∙ L.2)
        ∙ go (lookup layer_order (layer_key ks K) v.1) refl (layers_find-is K l (path_down K ks) m)
        ∙ ap (through (value_find at K (suc l) ks)) (sym (lookup-map layer_order (layer_key ks K) (bare_value (suc l)) v.1))
      where
        k : IkeyClass
        k = layer_key ks K

        go : (o : Option (LayeredValue (suc l))) → lookup layer_order k v.1 ≡ o
            → ((w : Layered l) → BelowLinks (path_down K ks) K → HoldsLayer top hi l m w
            → RightLayer at l (path_down K ks) (map (bare_entry l) w.1) → ((j : ℕ) → layer_reaches l w j ≤ 1)
            → layers_find at K l (path_down K ks) (layer_root l w) m ≡ entries_find at K l (path_down K ks) (map (bare_entry l) w.1))
            → through (by_pointer (cell_asked at K) (λ q. layers_find at K l (path_down K ks) q m)) (map_option (pointer_of (suc l)) o)
            ≡ through (value_find at K (suc l) ks) (map_option (bare_value (suc l)) o)
        go none q ih = refl
        go (some (inl b)) q ih = refl
        go (some (inr w)) q ih =
            let g = lookup-all layer_order k layer-order (RightValue at (suc l) ks) G.1 (bare_value (suc l) (inr w))
            (lookup-map layer_order k (bare_value (suc l)) v.1 ∙ ap (map_option (bare_value (suc l))) q) in
            let h = lookup-all layer_order k layer-order (λ k v. HoldsValue top hi m (suc l) v) H.2 (inr w) q in
            ih w (below-one-more ks k.0 K uk (ap (λ (y : ℕ). (k.0, y)) g.0)) h (g.1, g.2)
            (λ j. omega (
              arith,
              u j,
              worth-le layer_order k (λ x. value_reaches (suc l) x j) v.1,
              ap (worth (λ x. value_reaches (suc l) x j)) q,
            ))

    -- ---- the listing

    walk-entries : (l : ℕ) (m : NodeList Pointer) (G : Pointer → List ℕ)
        → ((v : LayeredValue l) → HoldsValue top hi m l v → ((j : ℕ) → value_reaches l v j ≤ 1)
        → map at (G (pointer_of l v)) ≡ value_listing at l (bare_value l v))
        → {es : List (IkeyClass × LayeredValue l)} → All (λ e. HoldsValue top hi m l e.1) es
        → ((j : ℕ) → total (λ e. value_reaches l e.1 j) es ≤ 1)
        → map at (flattened (λ (e : IkeyClass × Pointer). G e.1) (map (pointer_entry l) es))
        ≡ flattened (entry_listing at l) (map (bare_entry l) es)
    walk-entries l m G f a[] u = refl
    walk-entries l m G f (◌a∷◌ {x = e} {xs = es} h hs) u =
        map-append at (G (pointer_of l e.1)) (flattened (λ (e : IkeyClass × Pointer). G e.1) (map (pointer_entry l) es))
        ∙ ap₂ ◌++◌ (f e.1 h (λ j. omega (arith, u j))) (walk-entries l m G f hs (λ j. omega (arith, u j)))

    layer-walk : (l : ℕ) (m : NodeList Pointer) (v : Layered l) → HoldsLayer top hi l m v → ((j : ℕ) → layer_reaches l v j ≤ 1)
        → memory_entries Pointer (height_from (length m) m (layer_root l v)) (0, layer_root l v) m ≡ map (pointer_entry l) v.1
    layer-walk l m v H u =
        let d = v.0.0 in
        let low = lows-agree Pointer top mid cut hi d 0 hi v.0.1 H.0.0 in
        ap (λ d. memory_entries Pointer d (0, layer_root l v) m)
        (height_from-is Pointer top m d (length m) (height-below-length Pointer top m d 0 v.0.1 H.0.1 low
        (λ j. omega (arith, u j))) 0 v.0.1 H.0.1 low)
        ∙ memory_entries-is Pointer top m d (0, v.0.1) H.0.1 low ∙ H.1

    pub layers_cells-is : (l : ℕ) (m : NodeList Pointer) (v : Layered l) → HoldsLayer top hi l m v → ((j : ℕ) → layer_reaches l v j ≤ 1)
        → map at (layers_cells l (layer_root l v) m) ≡ flattened (entry_listing at l) (map (bare_entry l) v.1)
    layers_cells-is zero m v H u =
        ap (λ (es : List (IkeyClass × Pointer)). map at
        (flattened (λ (e : IkeyClass × Pointer). by_pointer (λ b. b ∷ []) (λ q. []) e.1) es)) (layer-walk zero m v H u)
        ∙ walk-entries zero m (by_pointer (λ b. b ∷ []) (λ q. [])) (λ v h u. refl) H.2 (λ j. omega (arith, u j))
    layers_cells-is (suc l) m v H u =
        ap (λ (es : List (IkeyClass × Pointer)). map at
        (flattened (λ (e : IkeyClass × Pointer). by_pointer (λ b. b ∷ []) (λ q. layers_cells l q m) e.1) es)) (layer-walk (suc l) m v H u)
        ∙ walk-entries (suc l) m (by_pointer (λ b. b ∷ []) (λ q. layers_cells l q m)) (go (layers_cells-is l m)) H.2
        (λ j. omega (arith, u j))
      where
        go : ((w : Layered l) → HoldsLayer top hi l m w → ((j : ℕ) → layer_reaches l w j ≤ 1)
            → map at (layers_cells l (layer_root l w) m) ≡ flattened (entry_listing at l) (map (bare_entry l) w.1))
            → (v : LayeredValue (suc l)) → HoldsValue top hi m (suc l) v → ((j : ℕ) → value_reaches (suc l) v j ≤ 1)
            → map at (by_pointer (λ b. b ∷ []) (λ q. layers_cells l q m) (pointer_of (suc l) v))
            ≡ value_listing at (suc l) (bare_value (suc l) v)
        go ih (inl b) h u = refl
        go ih (inr w) h u = ih w h u
