-- One layer changed beside what its entries lead to: a new entry, or an entry that leads elsewhere. Assumes nothing.
use mathlib.Core.List.{List}
use mathlib.Core.Logic.{inr}
use mathlib.Core.Option.{Option, none, some}
use mathlib.Core.Path.{◌≡◌, refl, sym, ap, ◌∙◌}
use Prim.Native.Nat.{ℕ, ◌≤◌, ◌<◌, suc, ◌+◌}
use native.Mathlib.Omega.{arith}
use lib.ListN.{length, drop}
use Rattle.order.specs.Lists.{total}
use Rattle.order.specs.Map.{alter, lookup}
use Rattle.order.specs.Options.{map_option, worth}
use Rattle.order.proofs.Changes.{worth-le, lookup-map, alter-sum, alter-map, insert-as-long}
use Rattle.trees.specs.Nodes.{IkeyClass, layer_order, NodeList}
use Rattle.trees.specs.FreeNumbers.{free_numbers, times_in}
use Rattle.trees.specs.Tree.{any_reaches, HoldsAny}
use Rattle.trees.specs.TreePut.{CutsWell, tree_find, layer_needs, any_leaf, leaf_kept}
use Rattle.trees.specs.PutInMemory.{layer_put}
use Rattle.trees.specs.FindInMemory.{height_from, memory_find, memory_needs}
use Rattle.trees.specs.Layers.{Pointer, cell, link, LayeredValue, Layered, layered_cell, layer_root, pointer_of, value_reaches}
use Rattle.trees.specs.Layers.{layer_reaches, HoldsValue, HoldsLayer, LayerBecame}
use Rattle.trees.proofs.FindInTree.{height_from-is, memory_find-is, tree_find-is, needs-nothing, memory_needs-new}
use Rattle.trees.proofs.OneLayer.{lows-agree, layer_put-leaf, layer_put-became}
use Rattle.trees.proofs.Depth.{height-below-length}
use Rattle.trees.proofs.Layers.{pointer_of-one, value_reaches-one, HoldsValue-one, any-framed, value-framed, alter-holds}

module _ (top mid : ℕ) (cut : List (IkeyClass × Pointer) → ℕ) (hi : ℕ) where
  -- what the search of a layer finds
  pub layer-found : (l : ℕ) (m : NodeList Pointer) (v : Layered l) (k : IkeyClass) → k.0 < hi → HoldsLayer top hi l m v
      → ((j : ℕ) → any_reaches Pointer v.0 j ≤ 1)
      → (height_from (length m) m (layer_root l v) ≡ v.0.0)
      × (tree_find Pointer v.0.0 k (0, v.0.1) ≡ map_option (pointer_of l) (lookup layer_order k v.1))
      × (memory_find Pointer v.0.0 k (0, layer_root l v) m ≡ map_option (pointer_of l) (lookup layer_order k v.1))
  layer-found l m v k kh H u =
      let d = v.0.0 in
      let t = v.0.1 in
      let low = lows-agree Pointer top mid cut hi d 0 hi t H.0.0 in
      let ft : tree_find Pointer d k (0, t) ≡ map_option (pointer_of l) (lookup layer_order k v.1) =
      tree_find-is Pointer top k d 0 hi (0, t) (omega arith) kh H.0.0 ∙ ap (lookup layer_order k) H.1
      ∙ lookup-map layer_order k (pointer_of l) v.1 in (
        height_from-is Pointer top m d (length m) (height-below-length Pointer top m d 0 t H.0.1 low u) 0 t H.0.1 low,
        ft,
        memory_find-is Pointer top k m d (0, t) H.0.1 low ∙ ft,
      )

  module _ (cut_ok : CutsWell Pointer top mid cut) (mid-lo : 1 ≤ mid) (mid-hi : mid ≤ suc top) (tp : 2 ≤ top) where
    -- a new cell's entry
    pub insert-became : (l c : ℕ) (m : NodeList Pointer) (v : Layered l) (k : IkeyClass) → k.0 < hi → k.1 ≤ 9 → HoldsLayer top hi l m v
        → ((j : ℕ) → layer_reaches l v j + times_in (free_numbers 0 m) j ≤ 1)
        → lookup layer_order k v.1 ≡ none → memory_needs Pointer top v.0.0 k.0 (0, layer_root l v) m 1 ≤ length (free_numbers 0 m)
        → (w : Layered l) × LayerBecame top hi l (layer_reaches l v) (memory_needs Pointer top v.0.0 k.0 (0, layer_root l v) m 1) m w
        (layer_put Pointer top mid cut v.0.0 k (λ o. some (cell c)) (layer_root l v) m)
        × (w.1 ≡ alter layer_order k (λ o. some (layered_cell l c)) v.1)
        × (any_leaf Pointer k.0 w.0
        ≡ leaf_kept Pointer top cut k.0 (alter layer_order k (λ o. some (cell c)) (any_leaf Pointer k.0 v.0)))
    insert-became l c m v k kh kc H u q en =
        let d = v.0.0 in
        let t = v.0.1 in
        let es = v.1 in
        let f : Option Pointer → Option Pointer = λ o. some (cell c) in
        let L = layer-found l m v k kh H (λ j. omega (arith, u j)) in
        let n : memory_needs Pointer top d k.0 (0, layer_root l v) m 1 ≡ layer_needs Pointer top mid cut k f v.0 =
        memory_needs-new Pointer top mid cut k (cell c) m d 1 (0, t) H.0.1 (lows-agree Pointer top mid cut hi d 0 hi t H.0.0)
        (L.1 ∙ ap (map_option (pointer_of l)) q) in
        let (a, D, E, F) = layer_put-leaf Pointer top mid cut hi cut_ok mid-lo mid-hi (omega arith) m v.0 k f kh kc H.0
        (λ j. omega (arith, u j)) (omega arith) in
        let m' = (layer_put Pointer top mid cut d k f (layer_root l v) m).1 in
        let S : (j : ℕ) → total (λ e. value_reaches l e.1 j) (alter layer_order k (λ o. some (layered_cell l c)) es)
        ≡ total (λ e. value_reaches l e.1 j) es = λ j.
        omega (
          arith,
          alter-sum layer_order k (λ x. value_reaches l x j) (λ o. some (layered_cell l c)) es,
          value_reaches-one l c j,
          ap (worth (λ x. value_reaches l x j)) q,
        ) in (
          (a, alter layer_order k (λ o. some (layered_cell l c)) es),
          record {
            rooted = D.rooted;
            holds = (
              D.holds,
              E ∙ ap (alter layer_order k f) H.1 ∙ sym (alter-map layer_order k (pointer_of l) (λ o. some (layered_cell l c)) f es
                  (ap some (pointer_of-one l c))),
              alter-holds top hi m m' l k (layered_cell l c) (HoldsValue-one top hi m' l c) H.2
                  (λ j g. D.same j (omega (arith, u j)) (omega (arith, u j))),
            );
            left = D.left ∙ ap (λ n. drop n (free_numbers 0 m)) (sym n);
            size = D.size;
            same = λ j x y. D.same j (omega arith) y;
            keep = λ j. omega (arith, D.keep j, S j);
          },
          refl,
          F,
        )

    -- an entry that points to w after a change below, of what it was before
    pub relink-became : (l : ℕ) (m : NodeList Pointer) (v : Layered (suc l)) (k : IkeyClass) → k.0 < hi → k.1 ≤ 9
        → HoldsLayer top hi (suc l) m v → ((j : ℕ) → layer_reaches (suc l) v j + times_in (free_numbers 0 m) j ≤ 1)
        → (old : LayeredValue (suc l)) → lookup layer_order k v.1 ≡ some old → (n : ℕ) (w : Layered l) (b : ℕ × NodeList Pointer)
        → LayerBecame top hi l (value_reaches (suc l) old) n m w b
        → (x : Layered (suc l)) × LayerBecame top hi (suc l) (layer_reaches (suc l) v) n m x
        (layer_put Pointer top mid cut v.0.0 k (λ o. some (link b.0)) (layer_root (suc l) v) b.1)
        × (x.1 ≡ alter layer_order k (λ o. some (inr w)) v.1)
    relink-became l m v k kh kc H u old q n w b B =
        let d = v.0.0 in
        let t = v.0.1 in
        let es = v.1 in
        let m₁ = b.1 in
        let f : Option Pointer → Option Pointer = λ o. some (link b.0) in
        let g : Option (LayeredValue (suc l)) → Option (LayeredValue (suc l)) = λ o. some (inr w) in
        let le : (j : ℕ) → value_reaches (suc l) old j ≤ total (λ e. value_reaches (suc l) e.1 j) es = λ j.
        omega (arith, worth-le layer_order k (λ x. value_reaches (suc l) x j) es, ap (worth (λ x. value_reaches (suc l) x j)) q) in
        let L = layer-found (suc l) m v k kh H (λ j. omega (arith, u j)) in
        let H₁ : HoldsAny Pointer top hi m₁ v.0 = any-framed top hi m m₁ v.0
        (λ j i. B.same j (omega (arith, u j, le j)) (omega (arith, u j))) H.0 in
        let z : layer_needs Pointer top mid cut k f v.0 ≡ 0 =
        needs-nothing Pointer top mid cut k f (some (pointer_of (suc l) old))
        (λ es e. insert-as-long layer_order k (link b.0) (pointer_of (suc l) old) es e) d 1 0 hi (0, t) H.0.0
        (L.1 ∙ ap (map_option (pointer_of (suc l))) q) in
        let (a, D, E) = layer_put-became Pointer top mid cut hi cut_ok mid-lo mid-hi (omega arith) m₁ v.0 k f kh kc H₁
        (λ j. omega (arith, u j, B.keep j, le j)) (omega arith) in
        let m' = (layer_put Pointer top mid cut d k f (layer_root (suc l) v) m₁).1 in
        let lf : free_numbers 0 m' ≡ free_numbers 0 m₁ = D.left ∙ ap (λ n. drop n (free_numbers 0 m₁)) z in
        let S : (j : ℕ) → total (λ e. value_reaches (suc l) e.1 j) (alter layer_order k g es) + value_reaches (suc l) old j
        ≡ total (λ e. value_reaches (suc l) e.1 j) es + layer_reaches l w j = λ j.
        omega (arith, alter-sum layer_order k (λ x. value_reaches (suc l) x j) g es, ap (worth (λ x. value_reaches (suc l) x j)) q) in
        let W : HoldsValue top hi m' (suc l) (inr w) =
        value-framed top hi m₁ m' (suc l) (inr w) (λ j i. D.same j (omega (arith, u j, B.keep j, le j))
        (omega (arith, u j, B.keep j, le j))) B.holds in (
          (a, alter layer_order k g es),
          record {
            rooted = D.rooted;
            holds = (
              D.holds,
              E ∙ ap (alter layer_order k f) H.1 ∙ sym (alter-map layer_order k (pointer_of (suc l)) g f es
                  (ap (λ (i : ℕ). some (link i)) B.rooted)),
              alter-holds top hi m m' (suc l) k (inr w) W H.2 (λ j i.
                  let wo : worth (λ x. value_reaches (suc l) x j) (lookup layer_order k es) ≡ value_reaches (suc l) old j =
                  ap (worth (λ x. value_reaches (suc l) x j)) q in
                  D.same j (omega (arith, u j)) (omega (arith, u j, B.keep j)) ∙ B.same j (omega (arith, u j)) (omega (arith, u j))),
            );
            left = lf ∙ B.left;
            size = D.size ∙ B.size;
            same = λ j x y. D.same j (omega arith) (omega (arith, B.keep j, le j)) ∙ B.same j (omega (arith, le j)) y;
            keep = λ j. omega (arith, D.keep j, B.keep j, S j);
          },
          refl,
        )
