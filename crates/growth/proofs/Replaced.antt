-- A put at a key that is there writes its leaf alone: the leaf that the words lead to. Assumes nothing.
use mathlib.Core.Path.{◌≡◌, refl, sym, ap, ◌∙◌, subst}
use mathlib.Core.Logic.{◌≢◌}
use mathlib.Core.List.{List, [], ◌∷◌, ◌++◌, map, map-append}
use mathlib.Core.Option.{none, some}
use Prim.Native.Nat.{ℕ, zero, suc, ◌+◌, ◌≤◌, ◌<◌}
use native.Mathlib.Omega.{arith}
use lib.ListN.{length, set, length-map, length-append}
use lib.Seq.{set-get_or, get_or-set_other}
use Rattle.order.specs.Map.{All, alter, lookup}
use Rattle.order.proofs.Map.{all_split}
use Rattle.order.proofs.Changes.{alter-id, insert-as-long}
use Rattle.trees.specs.Nodes.{IkeyClass, layer_order, free, leaf, NodeList, node_in, one_at, leaf_entries, children_of}
use Rattle.trees.specs.Tree.{numbered, AnyTree, any_root, any_reaches, HoldsAny, low_of_children, TreeOver, internode_of, tree_root, tree_reaches}
use Rattle.trees.specs.Tree.{HoldsTree, WellFormed}
use Rattle.trees.specs.TreePut.{tree_find, through_child, of_child}
use Rattle.trees.specs.Cut.{cut_place}
use Rattle.trees.specs.PutInMemory.{write_or_split, memory_put, memory_with_root, layer_put}
use Rattle.trees.specs.Layers.{Pointer}
use Rattle.trees.proofs.Nodes.{layer-order, one_at-same}
use Rattle.trees.proofs.NeededInLayer.{leb-is}
use Rattle.trees.proofs.OneLayer.{lows-agree}
use Rattle.order.specs.Lists.{total}
use Rattle.order.proofs.Lists.{total-append}
use Rattle.model.specs.Down.{leaf_for}
use Rattle.growth.proofs.Memory.{both, Nodes, View}
use Rattle.growth.proofs.Picks.{Picks, picks-child, picks-descend, picks-map, picked}
use Rattle.growth.proofs.ParentGrown.{kids-fork}
use Rattle.growth.proofs.NodeGrown.{used-below, child-is}
use Rattle.growth.proofs.Needs.{head_of}

-- the leaf of a tree whose bounds hold x: its number and its entries
abbrev pub leaf_at : (d : ℕ) → ℕ → ℕ × TreeOver Pointer d → TreeOver Pointer 0
leaf_at zero x p = p.1
leaf_at (suc d) x p = of_child (0, []) (leaf_at d x) x p.1.1

-- the same tree, with the children left and right of the one that is picked
module _ (x : ℕ) where
  abbrev Way : (d lo hi : ℕ) → ℕ × TreeOver Pointer d → Type 0
  Way d lo hi p = (p.0 ≡ lo) × (lo ≤ x) × (x < hi) × WellFormed Pointer 15 d lo hi p.1

  -- the leaf is a node of the tree
  pub leaf-counted : (d lo hi : ℕ) (p : ℕ × TreeOver Pointer d) → Way d lo hi p → 1 ≤ tree_reaches Pointer d p.1 (leaf_at d x p).0
  leaf-counted zero lo hi p w = omega (arith, one_at-same p.1.0)
  leaf-counted (suc d) lo hi p w =
      let P = picked x w.1 w.2 w.3.0 in
      let q : leaf_at (suc d) x p ≡ leaf_at d x P.chosen =
      ap (of_child (0, []) (leaf_at d x) x) P.whole ∙ picks-child (0, []) (leaf_at d x) P.picks in
      let j = (leaf_at d x P.chosen).0 in
      let c = leaf-counted d P.lo P.hi P.chosen (P.low, P.from, P.below-hi, P.fits) in
      let s : total (λ (y : ℕ × TreeOver Pointer d). tree_reaches Pointer d y.1 j) p.1.1 ≡ _ =
      ap (total (λ (y : ℕ × TreeOver Pointer d). tree_reaches Pointer d y.1 j)) P.whole
      ∙ total-append (λ (y : ℕ × TreeOver Pointer d). tree_reaches Pointer d y.1 j) P.left (P.chosen ∷ P.right) in
      subst (λ (y : TreeOver Pointer 0). 1 ≤ one_at p.1.0 y.0 + total
      (λ (z : ℕ × TreeOver Pointer d). tree_reaches Pointer d z.1 y.0) p.1.1) (sym q) (omega (arith, c, s))

  -- memory has the leaf
  pub leaf-held : (m : NodeList Pointer) (d lo hi : ℕ) (p : ℕ × TreeOver Pointer d) → Way d lo hi p → HoldsTree Pointer m d p.1
      → node_in m (leaf_at d x p).0 ≡ leaf (leaf_at d x p).1
  leaf-held m zero lo hi p w g = g
  leaf-held m (suc d) lo hi p w g =
      let P = picked x w.1 w.2 w.3.0 in
      let q : leaf_at (suc d) x p ≡ leaf_at d x P.chosen =
      ap (of_child (0, []) (leaf_at d x) x) P.whole ∙ picks-child (0, []) (leaf_at d x) P.picks in
      let gs = subst (All (λ (y : ℕ × TreeOver Pointer d). HoldsTree Pointer m d y.1)) P.whole g.1 in
      subst (λ (y : TreeOver Pointer 0). node_in m y.0 ≡ leaf y.1) (sym q)
      (leaf-held m d P.lo P.hi P.chosen (P.low, P.from, P.below-hi, P.fits)
      (head_of (all_split P.left (P.chosen ∷ P.right) gs).1))

-- search looks there
pub leaf-found : (key : IkeyClass) (d lo hi : ℕ) (p : ℕ × TreeOver Pointer d) → Way key.0 d lo hi p
    → tree_find Pointer d key p ≡ lookup layer_order key (leaf_at d key.0 p).1
leaf-found key zero lo hi p w = refl
leaf-found key (suc d) lo hi p w =
    let x = key.0 in
    let P = picked x w.1 w.2 w.3.0 in
    ap (of_child none (tree_find Pointer d key) x) P.whole ∙ picks-child none (tree_find Pointer d key) P.picks
    ∙ leaf-found key d P.lo P.hi P.chosen (P.low, P.from, P.below-hi, P.fits)
    ∙ ap (λ (y : TreeOver Pointer 0). lookup layer_order key y.1)
    (sym (ap (of_child (0, []) (leaf_at d x) x) P.whole ∙ picks-child (0, []) (leaf_at d x) P.picks))

-- the words lead there
module _ (nodes : List ℕ) (n : ℕ) (N : Nodes nodes n) (ikey : ℕ) where
  leaf-below : (d lo k : ℕ) (l : List (ℕ × TreeOver Pointer d)) (q : ℕ × TreeOver Pointer d) (r : List (ℕ × TreeOver Pointer d))
      → Picks (suc ikey) l q r → node_in (View nodes n) k ≡ internode_of (map (numbered (tree_root Pointer d)) (l ++ q ∷ r))
      → leaf_for nodes (suc d) k ikey ≡ leaf_for nodes d (tree_root Pointer d q.1) ikey
  unfolding leaf_for
  leaf-below d lo k l q r s g =
      let num = numbered (tree_root Pointer d) in
      let ni : node_in (View nodes n) k ≡ internode_of (map num l ++ num q ∷ map num r) = g ∙ ap internode_of (map-append num l (q ∷ r)) in
      ap (λ (c : ℕ). leaf_for nodes d c ikey) (child-is nodes n N k ikey (used-below nodes n k (rw ni tt)) (map num l) (map num r)
      (num q) ni (picks-map (tree_root Pointer d) s))

  pub leaf-for : (d lo hi : ℕ) (p : ℕ × TreeOver Pointer d) → Way (suc ikey) d lo hi p → HoldsTree Pointer (View nodes n) d p.1
      → leaf_for nodes d (tree_root Pointer d p.1) ikey ≡ (leaf_at d (suc ikey) p).0
  unfolding leaf_for
  leaf-for zero lo hi p w g = refl
  leaf-for (suc d) lo hi p w g =
      let x = suc ikey in
      let P = picked x w.1 w.2 w.3.0 in
      let gs = subst (All (λ (y : ℕ × TreeOver Pointer d). HoldsTree Pointer (View nodes n) d y.1)) P.whole g.1 in
      leaf-below d lo p.1.0 P.left P.chosen P.right P.picks
      (g.0 ∙ ap (λ (ts : List (ℕ × TreeOver Pointer d)). internode_of (map (numbered (tree_root Pointer d)) ts)) P.whole)
      ∙ leaf-for d P.lo P.hi P.chosen (P.low, P.from, P.below-hi, P.fits)
      (head_of (all_split P.left (P.chosen ∷ P.right) gs).1)
      ∙ ap (λ (y : TreeOver Pointer 0). y.0)
      (sym (ap (of_child (0, []) (leaf_at d x) x) P.whole ∙ picks-child (0, []) (leaf_at d x) P.picks))

-- ---- the put writes that leaf, and no node above it changes

module _ (m : NodeList Pointer) (key : IkeyClass) (v : Pointer) where
  abbrev x : ℕ
  x = key.0

  abbrev Put : (d : ℕ) → ℕ × ℕ → NodeList Pointer → List (ℕ × ℕ) × NodeList Pointer
  Put d = memory_put Pointer 15 9 cut_place d key (λ o. some v)

  -- memory with that leaf altered
  abbrev pub leaf_altered : (d : ℕ) → ℕ × TreeOver Pointer d → NodeList Pointer
  leaf_altered d p = set m (leaf_at d x p).0 (leaf (alter layer_order key (λ o. some v) (leaf_at d x p).1))

  put_step : (d lo k : ℕ) (l : List (ℕ × TreeOver Pointer d)) (q : ℕ × TreeOver Pointer d) (r : List (ℕ × TreeOver Pointer d))
      → Picks x l q r → node_in m k ≡ internode_of (map (numbered (tree_root Pointer d)) (l ++ q ∷ r))
      → length (l ++ q ∷ r) ≤ 16 → low_of_children (l ++ q ∷ r) ≡ lo → (m' : NodeList Pointer) → node_in m' k ≡ node_in m k
      → Put d (numbered (tree_root Pointer d) q) m ≡ ((q.0, tree_root Pointer d q.1) ∷ [], m')
      → Put (suc d) (lo, k) m ≡ ((lo, k) ∷ [], m')
  put_step d lo k l q r s g few low m' same e =
      let num = numbered (tree_root Pointer d) in
      let K = map num l ++ num q ∷ map num r in
      let K-is : map num (l ++ q ∷ r) ≡ K = map-append num l (q ∷ r) in
      let ni : node_in m k ≡ internode_of K = g ∙ ap internode_of K-is in
      let len : length K ≤ 16 = omega (arith, few, ap length K-is, length-map (l ++ q ∷ r) num) in
      let pos : 0 < length K = omega (arith, length-append (map num l) (num q ∷ map num r)) in
      let lo-is : low_of_children K ≡ lo = ap low_of_children (sym K-is) ∙ low-map (l ++ q ∷ r) ∙ low in
      let D : through_child (Put d) x (children_of lo (node_in m k)) m ≡ (K, m') =
      ap (λ (ps : List (ℕ × ℕ)). through_child (Put d) x ps m) (ap (children_of lo) ni ∙ kids-fork lo K pos lo-is)
      ∙ picks-descend (Put d) m (picks-map (tree_root Pointer d) s)
      ∙ ap (λ (b : List (ℕ × ℕ) × NodeList Pointer). (map num l ++ (b.0 ++ map num r), b.1)) e in
      ap (λ (b : List (ℕ × ℕ) × NodeList Pointer). write_or_split internode_of low_of_children 16 9 lo k b.0 b.1) D
      ∙ rw (leb-is (length K) 16 len) (both refl (ap (set m' k) (sym (same ∙ ni)) ∙ set-get_or m' k free))
    where
      low-map : (ps : List (ℕ × TreeOver Pointer d)) → low_of_children (map (numbered (tree_root Pointer d)) ps) ≡ low_of_children ps
      low-map [] = refl
      low-map (p ∷ ps) = refl

  module _ (w : Pointer) where
    pub put-there : (d lo hi : ℕ) (p : ℕ × TreeOver Pointer d) → Way x d lo hi p → HoldsTree Pointer m d p.1
        → ((j : ℕ) → tree_reaches Pointer d p.1 j ≤ 1) → tree_find Pointer d key p ≡ some w
        → Put d (numbered (tree_root Pointer d) p) m ≡ ((p.0, tree_root Pointer d p.1) ∷ [], leaf_altered d p)
    put-there zero lo hi p y g u e =
        rw (
          g,
          leb-is (length (alter layer_order key (λ o. some v) p.1.1)) 15
              (omega (arith, insert-as-long layer_order key v w p.1.1 e, y.3.2)),
        )
    put-there (suc d) lo hi p y g u e =
        let P = picked x y.1 y.2 y.3.0 in
        let Z : Way x d P.lo P.hi P.chosen = (P.low, P.from, P.below-hi, P.fits) in
        let L = lows-agree Pointer 15 9 cut_place hi (suc d) lo hi p.1 y.3 in
        let q : leaf_at (suc d) x p ≡ leaf_at d x P.chosen =
        ap (of_child (0, []) (leaf_at d x) x) P.whole ∙ picks-child (0, []) (leaf_at d x) P.picks in
        let gs = subst (All (λ (z : ℕ × TreeOver Pointer d). HoldsTree Pointer m d z.1)) P.whole g.1 in
        let tot : (j : ℕ) → total (λ (z : ℕ × TreeOver Pointer d). tree_reaches Pointer d z.1 j) p.1.1
        ≡ total (λ (z : ℕ × TreeOver Pointer d). tree_reaches Pointer d z.1 j) P.left + total
        (λ (z : ℕ × TreeOver Pointer d). tree_reaches Pointer d z.1 j) (P.chosen ∷ P.right) =
        λ j. ap (total (λ (z : ℕ × TreeOver Pointer d). tree_reaches Pointer d z.1 j)) P.whole
        ∙ total-append (λ (z : ℕ × TreeOver Pointer d). tree_reaches Pointer d z.1 j) P.left (P.chosen ∷ P.right) in
        let j = (leaf_at d x P.chosen).0 in
        let no : p.1.0 ≢ j =
        λ z. absurd (omega (
          arith,
          leaf-counted x d P.lo P.hi P.chosen Z,
          u j,
          tot j,
          ap (one_at p.1.0) z,
          one_at-same p.1.0,
        )) in
        let m' = leaf_altered d P.chosen in
        let IH = put-there d P.lo P.hi P.chosen Z (head_of (all_split P.left (P.chosen ∷ P.right) gs).1)
        (λ i. omega (arith, u i, tot i))
        (sym (ap (of_child none (tree_find Pointer d key) x) P.whole ∙ picks-child none (tree_find Pointer d key) P.picks) ∙ e) in
        put_step d p.0 p.1.0 P.left P.chosen P.right P.picks
        (g.0 ∙ ap (λ (ts : List (ℕ × TreeOver Pointer d)). internode_of (map (numbered (tree_root Pointer d)) ts)) P.whole)
        (omega (arith, ap length P.whole, y.3.1)) (ap low_of_children (sym P.whole) ∙ L.1 ∙ sym y.0) m'
        (get_or-set_other m j p.1.0 _ free no) IH
        ∙ both refl (ap (λ (z : TreeOver Pointer 0). set m z.0 (leaf (alter layer_order key (λ o. some v) z.1))) (sym q))

    -- of a whole layer: its root stays
    pub layer-there : (hi : ℕ) (t : AnyTree Pointer) → x < hi → HoldsAny Pointer 15 hi m t → ((j : ℕ) → any_reaches Pointer t j ≤ 1)
        → tree_find Pointer t.0 key (0, t.1) ≡ some w
        → layer_put Pointer 15 9 cut_place t.0 key (λ o. some v) (any_root Pointer t) m ≡ (any_root Pointer t, leaf_altered t.0 (0, t.1))
    layer-there hi t below H u e =
        ap (λ (b : List (ℕ × ℕ) × NodeList Pointer). memory_with_root Pointer b.0 b.1)
        (put-there t.0 0 hi (0, t.1) (refl, omega arith, below, H.0) H.1 u e)

    -- the same by the number of its leaf, as the words have it
    pub layer-link : (hi : ℕ) (t : AnyTree Pointer) → x < hi → HoldsAny Pointer 15 hi m t → ((j : ℕ) → any_reaches Pointer t j ≤ 1)
        → tree_find Pointer t.0 key (0, t.1) ≡ some w → (k : ℕ) → k ≡ (leaf_at t.0 x (0, t.1)).0
        → layer_put Pointer 15 9 cut_place t.0 key (λ o. some v) (any_root Pointer t) m
        ≡ (any_root Pointer t, set m k (leaf (alter layer_order key (λ o. some v) (leaf_entries (node_in m k)))))
    layer-link hi t below H u e k q =
        let lf = leaf_at t.0 x (0, t.1) in
        let held : node_in m lf.0 ≡ leaf lf.1 = leaf-held x m t.0 0 hi (0, t.1) (refl, omega arith, below, H.0) H.1 in
        layer-there hi t below H u e
        ∙ both refl (ap (λ (es : List (IkeyClass × Pointer)). set m lf.0 (leaf (alter layer_order key (λ o. some v) es)))
        (sym (ap leaf_entries held))
        ∙ ap (λ (i : ℕ). set m i (leaf (alter layer_order key (λ o. some v) (leaf_entries (node_in m i))))) (sym q))

  -- and nothing changes where the value is there already
  pub layer-same : (hi : ℕ) (t : AnyTree Pointer) → x < hi → HoldsAny Pointer 15 hi m t → ((j : ℕ) → any_reaches Pointer t j ≤ 1)
      → tree_find Pointer t.0 key (0, t.1) ≡ some v
      → layer_put Pointer 15 9 cut_place t.0 key (λ o. some v) (any_root Pointer t) m ≡ (any_root Pointer t, m)
  layer-same hi t below H u e =
      let y : Way x t.0 0 hi (0, t.1) = (refl, omega arith, below, H.0) in
      let lf = leaf_at t.0 x (0, t.1) in
      let held : node_in m lf.0 ≡ leaf lf.1 = leaf-held x m t.0 0 hi (0, t.1) y H.1 in
      layer-there v hi t below H u e
      ∙ both refl (ap (λ (es : List (IkeyClass × Pointer)). set m lf.0 (leaf es))
      (alter-id layer_order key layer-order v lf.1 (sym (leaf-found key t.0 0 hi (0, t.1) y) ∙ e))
      ∙ ap (set m lf.0) (sym held) ∙ set-get_or m lf.0 free)
