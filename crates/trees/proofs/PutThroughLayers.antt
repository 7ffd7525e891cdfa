-- A put through the layers does on memory what it does among the entries, with just the nodes that it needs. Assumes nothing.
use mathlib.Core.List.{List, [], ◌∷◌, map}
use mathlib.Core.Logic.{◌≢◌, inl, inr}
use mathlib.Core.Option.{Option, none, some}
use mathlib.Core.Path.{◌≡◌, refl, sym, ap, ◌∙◌, subst, subst₂}
use Prim.Native.Nat.{ℕ, ◌≤◌, ◌<◌, zero, suc, ◌+◌}
use native.Mathlib.Omega.{arith}
use lib.ListN.{length}
use Rattle.order.specs.Bytes.{Bytes}
use Rattle.order.specs.Lists.{total, flattened}
use Rattle.order.specs.Map.{All, a[], ◌a∷◌, Sorted, alter, lookup}
use Rattle.order.specs.Options.{map_option, worth}
use Rattle.order.proofs.Changes.{worth-le, lookup-map, lookup-all, alter-map}
use Rattle.order.proofs.Lists.{all-flattened}
use Rattle.trees.specs.Nodes.{IkeyClass, layer_order, NodeList}
use Rattle.trees.specs.FreeNumbers.{free_numbers, times_in, lowest_free}
use Rattle.trees.specs.TreePut.{CutsWell, tree_find}
use Rattle.trees.specs.PutInMemory.{layer_put}
use Rattle.trees.specs.FindInMemory.{height_from, memory_find, memory_needs}
use Rattle.trees.specs.Paths.{raised_ikey, rest_below, BelowLinks, layer_key, path_down}
use Rattle.trees.specs.Entries.{cell_value, from_option, cell_key, value_listing, entry_listing, FitsLayers, RightValue, NewKey}
use Rattle.trees.specs.EntriesPut.{put_into_value}
use Rattle.trees.specs.Layers.{Pointer, cell, link, LayeredValue, Layered, layered_cell, bare_value, bare_entry, layer_root, pointer_of}
use Rattle.trees.specs.Layers.{value_reaches, layer_reaches, HoldsValue, HoldsLayer, LayerBecame}
use Rattle.trees.specs.LayersPut.{by_pointer, conflict_count, conflict_written, layers_put, layers_need}
use Rattle.trees.specs.LeafOfKey.{leaf_of_key, size_after_put}
use Rattle.trees.proofs.Nodes.{layer-order}
use Rattle.trees.proofs.Paths.{class-le}
use Rattle.trees.proofs.EntriesPut.{short-class, same_key, fits_more, both-longer}
use Rattle.trees.proofs.Layers.{bare_value-one}
use Rattle.trees.proofs.ConflictLayers.{cell_layer_key-lt, conflict-became}
use Rattle.trees.proofs.Relinked.{layer-found, insert-became, relink-became}
use Rattle.trees.proofs.LeafOfKey.{put-here, put-below}

module _ (top mid : ℕ) (cut : List (IkeyClass × Pointer) → ℕ) (hi : ℕ) (at : ℕ → List ℕ × ℕ) (c : ℕ) where
  -- Memory m with the layer v has become b, for n nodes: a layer whose entries are those of v with the key of cell c put into them. The
  -- leaf of that key has as many entries as the layer before it says.
  abbrev pub PutBecame : (l : ℕ) → List ℕ → NodeList Pointer → Layered l → ℕ → ℕ × NodeList Pointer → Type 0
  PutBecame l ks m v n b = (w : Layered l) × LayerBecame top hi l (layer_reaches l v) n m w b
      × (map (bare_entry l) w.1 ≡ alter layer_order (layer_key ks (cell_key at c))
      (λ o. some (from_option (cell_value l c) (put_into_value at c l ks) o)) (map (bare_entry l) v.1))
      × (length (leaf_of_key (cell_key at c) l ks w) ≡ size_after_put (cell_key at c) top cut c l ks v)

  -- what the entries of a layer must be
  abbrev pub RightEntries : (l : ℕ) → List ℕ → List (IkeyClass × LayeredValue l) → Type 0
  RightEntries l ks es = Sorted layer_order (map (bare_entry l) es) × All (λ e. RightValue at l ks e.0 e.1) (map (bare_entry l) es)

  module _ (cut_ok : CutsWell Pointer top mid cut) (mid-lo : 1 ≤ mid) (mid-hi : mid ≤ suc top) (tp : 2 ≤ top)
      (hi-ok : (K : List ℕ) → Bytes K → raised_ikey K < hi) where
    lk< : (ks : List ℕ) → BelowLinks ks (cell_key at c) → (layer_key ks (cell_key at c)).0 < hi
    lk< ks u = cell_layer_key-lt top mid cut hi at c hi-ok tp ks c u

    put-new : (l : ℕ) (ks : List ℕ) (m : NodeList Pointer) (v : Layered l) → BelowLinks ks (cell_key at c) → HoldsLayer top hi l m v
        → ((j : ℕ) → layer_reaches l v j + times_in (free_numbers 0 m) j ≤ 1)
        → lookup layer_order (layer_key ks (cell_key at c)) v.1 ≡ none
        → let n = memory_needs Pointer top v.0.0 (layer_key ks (cell_key at c)).0 (0, layer_root l v) m 1 in n ≤ length (free_numbers 0 m)
        → PutBecame l ks m v n (layer_put Pointer top mid cut v.0.0 (layer_key ks (cell_key at c)) (λ o. some (cell c)) (layer_root l v) m)
    put-new l ks m v uc H u q en =
        let k = layer_key ks (cell_key at c) in
        let (w, D, E, F) = insert-became top mid cut hi cut_ok mid-lo mid-hi tp l c m v k (lk< ks uc)
        (class-le ks (cell_key at c)) H u q en in (
          w,
          D,
          ap (map (bare_entry l)) E ∙ alter-map layer_order k (bare_value l) (λ o. some (layered_cell l c))
              (λ o. some (from_option (cell_value l c) (put_into_value at c l ks) o)) v.1
              (ap some (bare_value-one l c) ∙ ap (λ (o : Option (LayeredValue l)). some
              (from_option (cell_value l c) (put_into_value at c l ks) (map_option (bare_value l) o))) (sym q)),
          put-here (cell_key at c) ks top cut c l v w q E F,
        )

    put-over : (l : ℕ) (ks : List ℕ) (m : NodeList Pointer) (v : Layered (suc l)) → BelowLinks ks (cell_key at c)
        → HoldsLayer top hi (suc l) m v → ((j : ℕ) → layer_reaches (suc l) v j + times_in (free_numbers 0 m) j ≤ 1)
        → (old : LayeredValue (suc l)) → lookup layer_order (layer_key ks (cell_key at c)) v.1 ≡ some old
        → (n : ℕ) (b : ℕ × NodeList Pointer)
        → (w : Layered l) → LayerBecame top hi l (value_reaches (suc l) old) n m w b
        → bare_value (suc l) (inr w) ≡ put_into_value at c (suc l) ks (bare_value (suc l) old)
        → length (leaf_of_key (cell_key at c) l (path_down (cell_key at c) ks) w) ≡ size_after_put (cell_key at c) top cut c (suc l) ks v
        → PutBecame (suc l) ks m v n (layer_put Pointer top mid cut v.0.0 (layer_key ks (cell_key at c)) (λ o. some (link b.0))
        (layer_root (suc l) v) b.1)
    put-over l ks m v uc H u old q n b w B S F =
        let k = layer_key ks (cell_key at c) in
        let (x, D, E) = relink-became top mid cut hi cut_ok mid-lo mid-hi tp l m v k (lk< ks uc)
        (class-le ks (cell_key at c)) H u old q n w b B in (
          x,
          D,
          ap (map (bare_entry (suc l))) E ∙ alter-map layer_order k (bare_value (suc l)) (λ o. some (inr w))
              (λ o. some (from_option (cell_value (suc l) c) (put_into_value at c (suc l) ks) o)) v.1
              (ap some S ∙ ap (λ (o : Option (LayeredValue (suc l))). some
              (from_option (cell_value (suc l) c) (put_into_value at c (suc l) ks) (map_option (bare_value (suc l)) o))) (sym q)),
          put-below (cell_key at c) ks top cut c l v x w E F,
        )

    pub layers_put-became : (l : ℕ) (ks : List ℕ) (m : NodeList Pointer) (v : Layered l) → FitsLayers at l ks (cell_key at c)
        → HoldsLayer top hi l m v → RightEntries l ks v.1 → NewKey at c (flattened (entry_listing at l) (map (bare_entry l) v.1))
        → ((j : ℕ) → layer_reaches l v j + times_in (free_numbers 0 m) j ≤ 1)
        → layers_need top at (cell_key at c) l ks (layer_root l v) m ≤ length (free_numbers 0 m)
        → PutBecame l ks m v (layers_need top at (cell_key at c) l ks (layer_root l v) m)
        (layers_put top mid cut at (cell_key at c) c l ks (layer_root l v) m)
    layers_put-became zero ks m v fc H G N u en = go (lookup layer_order k v.1) refl
      where
        k : IkeyClass
        k = layer_key ks (cell_key at c)

        Goal : ℕ → Type 0
        Goal d = memory_needs Pointer top d k.0 (0, layer_root zero v) m 1 ≤ length (free_numbers 0 m)
            → PutBecame zero ks m v (memory_needs Pointer top d k.0 (0, layer_root zero v) m 1)
            (layer_put Pointer top mid cut d k (λ o. some (cell c)) (layer_root zero v) m)

        go : (o : Option ℕ) → lookup layer_order k v.1 ≡ o
            → PutBecame zero ks m v (layers_need top at (cell_key at c) zero ks (layer_root zero v) m)
            (layers_put top mid cut at (cell_key at c) c zero ks (layer_root zero v) m)
        go none q = subst Goal (sym (layer-found top mid cut hi zero m v k (lk< ks fc.0) H (λ j. omega (arith, u j))).0)
            (put-new zero ks m v fc.0 H u q) en
        go (some b) q =
            let lb : lookup layer_order k (map (bare_entry zero) v.1) ≡ some b =
            lookup-map layer_order k (bare_value zero) v.1 ∙ ap (map_option (bare_value zero)) q in
            let g = lookup-all layer_order k layer-order (RightValue at zero ks) G.1 b lb in
            let n = lookup-all layer_order k layer-order (λ k v. NewKey at c (value_listing at zero v))
            (all-flattened (entry_listing at zero) (map (bare_entry zero) v.1) N) b lb in
            absurd (head n (same_key ks (cell_key at c) (cell_key at b) fc.0 g.0.0 (sym g.1)
            (short-class (rest_below ks (cell_key at c)) (omega (arith, fc.1)))))
          where
            head : {b : ℕ} → NewKey at c (at b ∷ []) → cell_key at c ≢ cell_key at b
            head (p a∷ a[]) = p
    layers_put-became (suc l) ks m v fc H G N u en =
        subst₂ Goal (sym L.0) (sym (ap (λ d. memory_find Pointer d k (0, r) m) L.0 ∙ L.2))
        (go (lookup layer_order k v.1) refl (layers_put-became l (path_down (cell_key at c) ks) m)) en
      where
        k : IkeyClass
        k = layer_key ks (cell_key at c)

        r : ℕ
        r = layer_root (suc l) v

        ks' : List ℕ
        ks' = path_down (cell_key at c) ks

        L : (height_from (length m) m r ≡ v.0.0) × (tree_find Pointer v.0.0 k (0, v.0.1)
            ≡ map_option (pointer_of (suc l)) (lookup layer_order k v.1))
            × (memory_find Pointer v.0.0 k (0, r) m ≡ map_option (pointer_of (suc l)) (lookup layer_order k v.1))
        L = layer-found top mid cut hi (suc l) m v k (lk< ks fc.0) H (λ j. omega (arith, u j))

        below : Pointer → ℕ × NodeList Pointer
        below = by_pointer (λ b. (lowest_free m, conflict_written at (cell_key at c) c b l ks' m))
            (λ q. layers_put top mid cut at (cell_key at c) c l ks' q m)

        cost : Pointer → ℕ
        cost = by_pointer (λ b. conflict_count (cell_key at c) (cell_key at b) l ks') (λ q. layers_need top at (cell_key at c) l ks' q m)

        Goal : ℕ → Option Pointer → Type 0
        Goal d o = from_option (memory_needs Pointer top d k.0 (0, r) m 1) cost o ≤ length (free_numbers 0 m)
            → PutBecame (suc l) ks m v (from_option (memory_needs Pointer top d k.0 (0, r) m 1) cost o)
            (from_option (layer_put Pointer top mid cut d k (λ o. some (cell c)) r m)
            (λ p. layer_put Pointer top mid cut d k (λ o. some (link (below p).0)) r (below p).1) o)

        le : (old : LayeredValue (suc l)) → lookup layer_order k v.1 ≡ some old → (j : ℕ)
            → value_reaches (suc l) old j ≤ total (λ e. value_reaches (suc l) e.1 j) v.1
        le old q j = omega (
          arith,
          worth-le layer_order k (λ x. value_reaches (suc l) x j) v.1,
          ap (worth (λ x. value_reaches (suc l) x j)) q,
        )

        head : {b : ℕ} → NewKey at c (at b ∷ []) → cell_key at c ≢ cell_key at b
        head (p a∷ a[]) = p

        go : (o : Option (LayeredValue (suc l))) → lookup layer_order k v.1 ≡ o
            → ((w : Layered l) → FitsLayers at l ks' (cell_key at c) → HoldsLayer top hi l m w → RightEntries l ks' w.1
            → NewKey at c (flattened (entry_listing at l) (map (bare_entry l) w.1))
            → ((j : ℕ) → layer_reaches l w j + times_in (free_numbers 0 m) j ≤ 1)
            → layers_need top at (cell_key at c) l ks' (layer_root l w) m ≤ length (free_numbers 0 m)
            → PutBecame l ks' m w (layers_need top at (cell_key at c) l ks' (layer_root l w) m)
            (layers_put top mid cut at (cell_key at c) c l ks' (layer_root l w) m))
            → Goal v.0.0 (map_option (pointer_of (suc l)) o)
        go none q ih en = put-new (suc l) ks m v fc.0 H u q en
        go (some (inl b)) q ih en =
            let lb : lookup layer_order k (map (bare_entry (suc l)) v.1) ≡ some (inl b) =
            lookup-map layer_order k (bare_value (suc l)) v.1 ∙ ap (map_option (bare_value (suc l))) q in
            let g = lookup-all layer_order k layer-order (RightValue at (suc l) ks) G.1 (inl b) lb in
            let n = head (lookup-all layer_order k layer-order (λ k v. NewKey at c (value_listing at (suc l) v))
            (all-flattened (entry_listing at (suc l)) (map (bare_entry (suc l)) v.1) N) (inl b) lb) in
            let x : k ≡ (k.0, 9) = both-longer at (suc l) ks (cell_key at c) (cell_key at b) fc g.0 n (sym g.1) in
            let (w, D, E, F) = conflict-became top mid cut hi at c hi-ok tp b l ks' m (fits_more at l ks k.0 (cell_key at c) fc x)
            (fits_more at l ks k.0 (cell_key at b) g.0 (g.1 ∙ x)) n (λ j. omega (arith, u j)) en in
            put-over l ks m v fc.0 H u (inl b) q (conflict_count (cell_key at c) (cell_key at b) l ks')
            (lowest_free m, conflict_written at (cell_key at c) c b l ks' m) w D (ap inr E) (F ∙ rw q)
        go (some (inr w₀)) q ih en =
            let lb : lookup layer_order k (map (bare_entry (suc l)) v.1) ≡ some (bare_value (suc l) (inr w₀)) =
            lookup-map layer_order k (bare_value (suc l)) v.1 ∙ ap (map_option (bare_value (suc l))) q in
            let g = lookup-all layer_order k layer-order (RightValue at (suc l) ks) G.1 (bare_value (suc l) (inr w₀)) lb in
            let n = lookup-all layer_order k layer-order (λ k v. NewKey at c (value_listing at (suc l) v))
            (all-flattened (entry_listing at (suc l)) (map (bare_entry (suc l)) v.1) N) (bare_value (suc l) (inr w₀)) lb in
            let h = lookup-all layer_order k layer-order (λ k v. HoldsValue top hi m (suc l) v) H.2 (inr w₀) q in
            let (w, D, E, F) = ih w₀ (fits_more at l ks k.0 (cell_key at c) fc (ap (λ (y : ℕ). (k.0, y)) g.0)) h (g.1, g.2) n
            (λ j. omega (arith, u j, le (inr w₀) q j)) en in
            put-over l ks m v fc.0 H u (inr w₀) q (layers_need top at (cell_key at c) l ks' (layer_root l w₀) m)
            (layers_put top mid cut at (cell_key at c) c l ks' (layer_root l w₀) m) w D (ap inr E) (F ∙ rw q)
