-- A removal through the layers does on memory what it does among the entries: the entry goes, an emptied leaf stays. Assumes nothing.
use mathlib.Core.Bool.{Bool, true, false, cond}
use mathlib.Core.List.{List, map}
use mathlib.Core.Logic.{inl, inr}
use mathlib.Core.Option.{Option, none, some}
use mathlib.Core.Path.{◌≡◌, refl, sym, ap, ◌∙◌, subst, subst₂}
use Prim.Native.Nat.{ℕ, ◌≤◌, ◌<◌, Ordering, zero, suc, ◌+◌}
use native.Mathlib.Omega.{arith}
use lib.ListN.{length, drop, length-map}
use Rattle.order.specs.Bytes.{Bytes, bytewise}
use Rattle.order.specs.Lists.{total}
use Rattle.order.specs.Map.{alter, lookup, pick}
use Rattle.order.specs.Options.{map_option, worth}
use Rattle.order.proofs.Changes.{worth-le, lookup-map, lookup-all, alter-sum, alter-map, delete-shorter, alter-id}
use Rattle.trees.specs.Nodes.{IkeyClass, layer_order, NodeList}
use Rattle.trees.specs.FreeNumbers.{free_numbers, times_in}
use Rattle.trees.specs.Tree.{numbered, AnyTree, any_root, any_reaches, HoldsAny, tree_root}
use Rattle.trees.specs.TreePut.{CutsWell, tree_find, stays_one, layer_needs, tree_put}
use Rattle.trees.specs.PutInMemory.{memory_put, memory_with_root, layer_put}
use Rattle.trees.specs.FindInMemory.{height_from, memory_find}
use Rattle.trees.specs.Paths.{raised_ikey, rest_below, BelowLinks, layer_key, path_down}
use Rattle.trees.specs.Entries.{RightLayer, EntryValue, from_option, cell_key, RightValue}
use Rattle.trees.specs.EntriesFound.{through, cell_asked, value_find, entries_find, value_without}
use Rattle.trees.specs.Layers.{Pointer, link, LayeredValue, Layered, bare_value, bare_entry, layer_root, pointer_of, pointer_entry}
use Rattle.trees.specs.Layers.{value_reaches, layer_reaches, HoldsValue, HoldsLayer, LayerBecame}
use Rattle.trees.specs.LayersPut.{by_pointer}
use Rattle.trees.specs.LayersFound.{layers_remove}
use Rattle.trees.proofs.Nodes.{layer-order}
use Rattle.trees.proofs.PutInMemory.{put-in-step}
use Rattle.trees.proofs.NeededInLayer.{tree_put-size, need-is}
use Rattle.trees.proofs.WritesStop.{memory_put-same}
use Rattle.trees.proofs.FindInTree.{needs-nothing}
use Rattle.trees.proofs.OneLayer.{lows-agree, layer_put-became}
use Rattle.trees.proofs.Paths.{class-le, bytes_rest}
use Rattle.trees.proofs.EntriesPut.{below-one-more}
use Rattle.trees.proofs.Layers.{any-framed, alter-holds, erase-holds}
use Rattle.trees.proofs.Relinked.{layer-found}

module _ (top mid : ℕ) (cut : List (IkeyClass × Pointer) → ℕ) (hi : ℕ) (at : ℕ → List ℕ × ℕ) (K : List ℕ) where
  module _ (cut_ok : CutsWell Pointer top mid cut) (mid-lo : 1 ≤ mid) (mid-hi : mid ≤ suc top) (tp : 2 ≤ top)
      (hi-ok : (K : List ℕ) → Bytes K → raised_ikey K < hi) where
    -- a change that takes no node leaves the root where it is
    root-stays : (m : NodeList Pointer) (t : AnyTree Pointer) (k : IkeyClass) (f : Option Pointer → Option Pointer)
        → HoldsAny Pointer top hi m t → ((j : ℕ) → any_reaches Pointer t j + times_in (free_numbers 0 m) j ≤ 1)
        → layer_needs Pointer top mid cut k f t ≡ 0
        → (layer_put Pointer top mid cut t.0 k f (any_root Pointer t) m).0 ≡ any_root Pointer t
    root-stays m t k f H u z =
        let d = t.0 in
        let fs = free_numbers 0 m in
        let a = tree_put Pointer top mid cut d k f (0, t.1) fs in
        let ne = need-is Pointer top mid cut k f fs d 1 (0, t.1) 0 hi H.0 in
        let D = put-in-step Pointer top mid cut k f fs m refl d (0, t.1) (omega arith)
        (lows-agree Pointer top mid cut hi d 0 hi t.1 H.0) H.1 u in
        let one : length a.0 ≤ 1 = omega (
          arith,
          tree_put-size Pointer top mid cut k f fs d (0, t.1),
          true_of (stays_one Pointer top mid cut d k f (0, t.1) fs) (omega arith),
        ) in
        let e = (memory_put-same Pointer top mid cut k f fs m refl d (0, any_root Pointer t)).1
        (omega (arith, ap length D.nums, length-map a.0 (numbered (tree_root Pointer d)))) in
        ap (λ (b : List (ℕ × ℕ)). (memory_with_root Pointer b (memory_put Pointer top mid cut d k f (0, any_root Pointer t) m).1).0) e
      where
        true_of : (b : Bool) → ◌≡◌ {A = ℕ} (cond b 0 1) 0 → ◌≡◌ {A = ℕ} (cond b 1 2) 1
        true_of true h = refl
        true_of false h = absurd (omega arith)

    -- a cell's entry goes
    erase-became : (l : ℕ) (m : NodeList Pointer) (v : Layered l) (k : IkeyClass) → k.0 < hi → k.1 ≤ 9 → HoldsLayer top hi l m v
        → ((j : ℕ) → layer_reaches l v j + times_in (free_numbers 0 m) j ≤ 1)
        → (old : LayeredValue l) → lookup layer_order k v.1 ≡ some old → ((j : ℕ) → value_reaches l old j ≡ 0)
        → ((layer_put Pointer top mid cut v.0.0 k (λ o. none) (layer_root l v) m).0 ≡ layer_root l v) × (w : Layered l)
        × LayerBecame top hi l (layer_reaches l v) 0 m w (layer_put Pointer top mid cut v.0.0 k (λ o. none) (layer_root l v) m)
        × (w.1 ≡ alter layer_order k (λ o. none) v.1)
    erase-became l m v k kh kc H u old q zo =
        let d = v.0.0 in
        let t = v.0.1 in
        let es = v.1 in
        let f : Option Pointer → Option Pointer = λ o. none in
        let L = layer-found top mid cut hi l m v k kh H (λ j. omega (arith, u j)) in
        let z : layer_needs Pointer top mid cut k f v.0 ≡ 0 =
        needs-nothing Pointer top mid cut k f (map_option (pointer_of l) (lookup layer_order k es))
        (λ es e. delete-shorter layer_order k es) d 1 0 hi (0, t) H.0.0 L.1 in
        let (a, D, E) = layer_put-became Pointer top mid cut hi cut_ok mid-lo mid-hi (omega arith) m v.0 k f kh kc H.0
        (λ j. omega (arith, u j)) (omega arith) in
        let m' = (layer_put Pointer top mid cut d k f (layer_root l v) m).1 in
        let S : (j : ℕ) → total (λ e. value_reaches l e.1 j) (alter layer_order k (λ o. none) es)
        ≡ total (λ e. value_reaches l e.1 j) es = λ j.
        omega (arith, alter-sum layer_order k (λ x. value_reaches l x j) (λ o. none) es, zo j, ap (worth (λ x. value_reaches l x j)) q) in (
          root-stays m v.0 k f H.0 (λ j. omega (arith, u j)) z,
          (a, alter layer_order k (λ o. none) es),
          record {
            rooted = D.rooted;
            holds = (
              D.holds,
              E ∙ ap (alter layer_order k f) H.1 ∙ sym (alter-map layer_order k (pointer_of l) (λ o. none) f es refl),
              erase-holds top hi m m' l k H.2 (λ j g. D.same j (omega (arith, u j)) (omega (arith, u j))),
            );
            left = D.left ∙ ap (λ n. drop n (free_numbers 0 m)) z;
            size = D.size;
            same = λ j x y. D.same j (omega arith) y;
            keep = λ j. omega (arith, D.keep j, S j);
          },
          refl,
        )

    -- the layer above, where the root below stays
    above-became : (l : ℕ) (m : NodeList Pointer) (v : Layered (suc l)) (k : IkeyClass) → HoldsLayer top hi (suc l) m v
        → ((j : ℕ) → layer_reaches (suc l) v j + times_in (free_numbers 0 m) j ≤ 1)
        → (w₀ : Layered l) → lookup layer_order k v.1 ≡ some (inr w₀) → (n : ℕ) (w : Layered l) (b : ℕ × NodeList Pointer)
        → LayerBecame top hi l (layer_reaches l w₀) n m w b → b.0 ≡ layer_root l w₀
        → LayerBecame top hi (suc l) (layer_reaches (suc l) v) n m (v.0, alter layer_order k (λ o. some (inr w)) v.1)
        (layer_root (suc l) v, b.1)
    above-became l m v k H u w₀ q n w b B rt =
        let es = v.1 in
        let m₁ = b.1 in
        let g : Option (LayeredValue (suc l)) → Option (LayeredValue (suc l)) = λ o. some (inr w) in
        let f : Option Pointer → Option Pointer = λ o. some (link (layer_root l w₀)) in
        let le : (j : ℕ) → layer_reaches l w₀ j ≤ total (λ e. value_reaches (suc l) e.1 j) es =
        λ j. omega (arith, worth-le layer_order k (λ x. value_reaches (suc l) x j) es, ap (worth (λ x. value_reaches (suc l) x j)) q) in
        let ids : map (pointer_entry (suc l)) (alter layer_order k g es) ≡ map (pointer_entry (suc l)) es =
        alter-map layer_order k (pointer_of (suc l)) g f es (ap (λ (i : ℕ). some (link i)) (B.rooted ∙ rt))
        ∙ alter-id layer_order k layer-order (link (layer_root l w₀)) (map (pointer_entry (suc l)) es)
        (lookup-map layer_order k (pointer_of (suc l)) es ∙ ap (map_option (pointer_of (suc l))) q) in
        record {
          rooted = refl;
          holds = (
            any-framed top hi m m₁ v.0 (λ j i. B.same j (omega (arith, u j, le j)) (omega (arith, u j))) H.0,
            H.1 ∙ sym ids,
            alter-holds top hi m m₁ (suc l) k (inr w) B.holds H.2 (λ j i.
                let wo : worth (λ x. value_reaches (suc l) x j) (lookup layer_order k es) ≡ layer_reaches l w₀ j =
                ap (worth (λ x. value_reaches (suc l) x j)) q in B.same j (omega (arith, u j)) (omega (arith, u j))),
          );
          left = B.left;
          size = B.size;
          same = λ j x y. B.same j (omega (arith, le j)) y;
          keep = λ j. omega (
            arith,
            B.keep j,
            alter-sum layer_order k (λ x. value_reaches (suc l) x j) g es,
            ap (worth (λ x. value_reaches (suc l) x j)) q,
          );
        }

    asked-is-without : {W : Type 0} (b c : ℕ) (v : W) → cell_asked at K b ≡ some c
        → pick (bytewise K (cell_key at b)) (some v) none (some v) ≡ none
    asked-is-without {W} b c v e = go (bytewise K (cell_key at b)) e
      where
        go : (o : Ordering) → pick o none (some b) none ≡ some c → pick o (some v) none (some v) ≡ none
        go Ordering.lt e = let z : ◌≡◌ {A = ℕ} 0 1 = cc in absurd (omega arith)
        go Ordering.eq e = refl
        go Ordering.gt e = let z : ◌≡◌ {A = ℕ} 0 1 = cc in absurd (omega arith)

    -- Memory m with the layer v has become b, with the same root and no node taken: a layer whose entries are those of v without the key.
    abbrev RemoveBecame : (l : ℕ) → List ℕ → NodeList Pointer → Layered l → ℕ × NodeList Pointer → Type 0
    RemoveBecame l ks m v b = (b.0 ≡ layer_root l v) × (w : Layered l) × LayerBecame top hi l (layer_reaches l v) 0 m w b
        × (map (bare_entry l) w.1 ≡ alter layer_order (layer_key ks K) (through (value_without at K l ks)) (map (bare_entry l) v.1))

    key< : (ks : List ℕ) → BelowLinks ks K → (layer_key ks K).0 < hi
    unfolding layer_key
    key< ks u = hi-ok (rest_below ks K) (bytes_rest ks K u)

    cell-removed : (l : ℕ) (ks : List ℕ) (m : NodeList Pointer) (v : Layered l) → BelowLinks ks K → HoldsLayer top hi l m v
        → ((j : ℕ) → layer_reaches l v j + times_in (free_numbers 0 m) j ≤ 1)
        → (old : LayeredValue l) → lookup layer_order (layer_key ks K) v.1 ≡ some old → ((j : ℕ) → value_reaches l old j ≡ 0)
        → value_without at K l ks (bare_value l old) ≡ none
        → RemoveBecame l ks m v (layer_put Pointer top mid cut v.0.0 (layer_key ks K) (λ o. none) (layer_root l v) m)
    cell-removed l ks m v uk H u old q zo n =
        let k = layer_key ks K in
        let (rt, w, D, E) = erase-became l m v k (key< ks uk) (class-le ks K) H u old q zo in (
          rt,
          w,
          D,
          ap (map (bare_entry l)) E ∙ alter-map layer_order k (bare_value l) (λ o. none) (through (value_without at K l ks)) v.1
              (sym n ∙ ap (λ (o : Option (LayeredValue l)). through (value_without at K l ks) (map_option (bare_value l) o)) (sym q)),
        )

    pub layers_remove-became : (l : ℕ) (ks : List ℕ) (m : NodeList Pointer) (v : Layered l) → BelowLinks ks K → HoldsLayer top hi l m v
        → RightLayer at l ks (map (bare_entry l) v.1) → ((j : ℕ) → layer_reaches l v j + times_in (free_numbers 0 m) j ≤ 1)
        → (c : ℕ) → entries_find at K l ks (map (bare_entry l) v.1) ≡ some c
        → RemoveBecame l ks m v (layers_remove top mid cut at K l ks (layer_root l v) m)
    layers_remove-became zero ks m v uk H G u c e = go (lookup layer_order k v.1) refl
        (ap (through (value_find at K zero ks)) (sym (lookup-map layer_order k (bare_value zero) v.1)) ∙ e)
      where
        k : IkeyClass
        k = layer_key ks K

        go : (o : Option ℕ) → lookup layer_order k v.1 ≡ o
            → through (value_find at K zero ks) (map_option (bare_value zero) (lookup layer_order k v.1)) ≡ some c
            → RemoveBecame zero ks m v (layers_remove top mid cut at K zero ks (layer_root zero v) m)
        go none q e =
            let z : ◌≡◌ {A = ℕ} 0 1 = cc (ap (λ (o : Option ℕ). through (value_find at K zero ks) (map_option (bare_value zero) o)) q) in
            absurd (omega arith)
        go (some b) q e =
            subst (λ d. RemoveBecame zero ks m v (layer_put Pointer top mid cut d k (λ o. none) (layer_root zero v) m))
            (sym (layer-found top mid cut hi zero m v k (key< ks uk) H (λ j. omega (arith, u j))).0)
            (cell-removed zero ks m v uk H u b q (λ j. refl)
            (asked-is-without b c b (sym (ap (λ (o : Option ℕ). through (value_find at K zero ks) (map_option (bare_value zero) o)) q) ∙ e)))
    layers_remove-became (suc l) ks m v uk H G u c e =
        subst₂ Goal (sym L.0) (sym (ap (λ d. memory_find Pointer d k (0, r) m) L.0 ∙ L.2))
        (go (lookup layer_order k v.1) refl (ap (through (value_find at K (suc l) ks))
        (sym (lookup-map layer_order k (bare_value (suc l)) v.1)) ∙ e) (layers_remove-became l (path_down K ks) m))
      where
        k : IkeyClass
        k = layer_key ks K

        r : ℕ
        r = layer_root (suc l) v

        L : (height_from (length m) m r ≡ v.0.0) × (tree_find Pointer v.0.0 k (0, v.0.1)
            ≡ map_option (pointer_of (suc l)) (lookup layer_order k v.1))
            × (memory_find Pointer v.0.0 k (0, r) m ≡ map_option (pointer_of (suc l)) (lookup layer_order k v.1))
        L = layer-found top mid cut hi (suc l) m v k (key< ks uk) H (λ j. omega (arith, u j))

        Goal : ℕ → Option Pointer → Type 0
        Goal d o = RemoveBecame (suc l) ks m v (from_option (r, m) (by_pointer (λ b. layer_put Pointer top mid cut d k (λ o. none) r m)
            (λ q. (r, (layers_remove top mid cut at K l (path_down K ks) q m).1))) o)

        go : (o : Option (LayeredValue (suc l))) → lookup layer_order k v.1 ≡ o
            → through (value_find at K (suc l) ks) (map_option (bare_value (suc l)) (lookup layer_order k v.1)) ≡ some c
            → ((w : Layered l) → BelowLinks (path_down K ks) K → HoldsLayer top hi l m w
            → RightLayer at l (path_down K ks) (map (bare_entry l) w.1) → ((j : ℕ) → layer_reaches l w j + times_in (free_numbers 0 m) j ≤ 1)
            → (c : ℕ) → entries_find at K l (path_down K ks) (map (bare_entry l) w.1) ≡ some c
            → RemoveBecame l (path_down K ks) m w (layers_remove top mid cut at K l (path_down K ks) (layer_root l w) m))
            → Goal v.0.0 (map_option (pointer_of (suc l)) o)
        go none q e ih =
            let z : ◌≡◌ {A = ℕ} 0 1 =
            cc (ap (λ (o : Option (LayeredValue (suc l))). through (value_find at K (suc l) ks) (map_option (bare_value (suc l)) o)) q) in
            absurd (omega arith)
        go (some (inl b)) q e ih =
            cell-removed (suc l) ks m v uk H u (inl b) q (λ j. refl)
            (asked-is-without b c (inl b)
            (sym (ap (λ (o : Option (LayeredValue (suc l))). through (value_find at K (suc l) ks) (map_option (bare_value (suc l)) o)) q) ∙ e))
        go (some (inr w₀)) q e ih =
            let g = lookup-all layer_order k layer-order (RightValue at (suc l) ks) G.1 (bare_value (suc l) (inr w₀))
            (lookup-map layer_order k (bare_value (suc l)) v.1 ∙ ap (map_option (bare_value (suc l))) q) in
            let h = lookup-all layer_order k layer-order (λ k v. HoldsValue top hi m (suc l) v) H.2 (inr w₀) q in
            let (rt, w, D, E) = ih w₀ (below-one-more ks k.0 K uk (ap (λ (y : ℕ). (k.0, y)) g.0)) h (g.1, g.2)
            (λ j. omega (
              arith,
              u j,
              worth-le layer_order k (λ x. value_reaches (suc l) x j) v.1,
              ap (worth (λ x. value_reaches (suc l) x j)) q,
            ))
            c (sym (ap (λ (o : Option (LayeredValue (suc l))). through (value_find at K (suc l) ks) (map_option (bare_value (suc l)) o)) q)
            ∙ e) in (
              refl,
              (v.0, alter layer_order k (λ o. some (inr w)) v.1),
              above-became l m v k H u w₀ q 0 w (layers_remove top mid cut at K l (path_down K ks) (layer_root l w₀) m) D rt,
              alter-map layer_order k (bare_value (suc l)) (λ o. some (inr w)) (through (value_without at K (suc l) ks)) v.1
                  (ap (λ (es : List (IkeyClass × EntryValue l)). some (inr es)) E
                  ∙ ap (λ (o : Option (LayeredValue (suc l))). through (value_without at K (suc l) ks) (map_option (bare_value (suc l)) o))
                  (sym q)),
            )
