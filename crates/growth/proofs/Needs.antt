-- The nodes that a put needs, over words and over the trees. Assumes nothing.
use mathlib.Core.Path.{◌≡◌, refl, sym, ap, ◌∙◌, subst}
use mathlib.Core.Bool.{cond}
use mathlib.Core.List.{List, ◌∷◌, ◌++◌, map, map-append}
use Prim.Native.Nat.{ℕ, zero, suc, ◌+◌, ◌%◌, ◌≤◌, ◌<◌}
use native.Mathlib.Omega.{arith}
use lib.Dec.{T, leb}
use lib.ListN.{length, length-map}
use Rattle.arena.specs.Layout.{word_at}
use Rattle.forest.specs.Nodes.{count_at, children_at, leaf_right, internode_right, entries_at}
use Rattle.forest.specs.Walk.{height_at}
use Rattle.order.specs.Map.{All, ◌a∷◌}
use Rattle.order.proofs.Map.{all_split}
use Rattle.trees.specs.Nodes.{Node, internode, NodeList, node_in, leaf_entries, children_of}
use Rattle.trees.specs.Tree.{numbered, AnyTree, any_root, any_reaches, HoldsAny, low_of_children, TreeOver, internode_of, tree_root, HoldsTree}
use Rattle.trees.specs.Tree.{WellFormed}
use Rattle.trees.specs.TreePut.{of_child}
use Rattle.trees.specs.FindInMemory.{height_from, memory_needs}
use Rattle.trees.specs.Layers.{Pointer}
use Rattle.trees.proofs.PutInMemory.{children-of-internode}
use Rattle.trees.proofs.FindInTree.{height_from-is}
use Rattle.trees.proofs.OneLayer.{lows-agree}
use Rattle.trees.proofs.Depth.{height-below-length}
use Rattle.views.specs.Views.{node_view}
use Rattle.model.specs.Needed.{split_too, need_in}
use Rattle.growth.proofs.Frames.{view-leaf, view-internode}
use Rattle.growth.proofs.Memory.{Nodes, node-fits, View, view-at, view-length, leaf-of, internode-of}
use Rattle.growth.proofs.Entries.{view_of}
use Rattle.growth.proofs.LeafGrown.{leaf-length}
use Rattle.growth.proofs.InternodeWrites.{internode-means, children-length}
use Rattle.growth.proofs.Picks.{Picks, picks-child, picks-map, picked}
use Rattle.growth.proofs.NodeGrown.{used-below, child-is}
use Rattle.growth.proofs.LayerGrown.{height-high}

pub head_of : {A : Type 0} {P : A → Type 0} {x : A} {xs : List A} → All P (x ∷ xs) → P x
head_of (a a∷ bs) = a

module _ (nodes : List ℕ) (n : ℕ) (N : Nodes nodes n) (ikey : ℕ) where
  abbrev seen : NodeList Pointer
  seen = View nodes n

  need-leaf : (p : ℕ × TreeOver Pointer 0) → HoldsTree Pointer seen 0 p.1 → (up : ℕ)
      → need_in nodes 0 p.1.0 ikey up ≡ memory_needs Pointer 15 0 (suc ikey) (p.0, p.1.0) seen up
  unfolding need_in
  need-leaf p g up =
      let k = p.1.0 in
      let h : k < n = used-below nodes n k (rw g tt) in
      let t : T (leaf_right nodes k) = leaf-of nodes n N k h (sym (view-at nodes n k h) ∙ g) in
      let len : length (leaf_entries (node_in seen k)) ≡ word_at nodes k 1 % 16 =
      ap (λ (x : Node Pointer). length (leaf_entries x)) (view-at nodes n k h ∙ view-leaf nodes k t)
      ∙ length-map (entries_at nodes k) view_of ∙ leaf-length nodes k t in
      ap (λ (c : ℕ). cond {A = ℕ} (leb (suc c) 15) 0 (suc up)) (sym len)

  need-internode : (d lo k : ℕ) (l : List (ℕ × TreeOver Pointer d)) (q : ℕ × TreeOver Pointer d) (r : List (ℕ × TreeOver Pointer d))
      → Picks (suc ikey) l q r
      → HoldsTree Pointer seen (suc d) (k, l ++ q ∷ r) → low_of_children (l ++ q ∷ r) ≡ lo → 0 < length (l ++ q ∷ r)
      → ((up : ℕ) → need_in nodes d (tree_root Pointer d q.1) ikey up
      ≡ memory_needs Pointer 15 d (suc ikey) (numbered (tree_root Pointer d) q) seen up)
      → (up : ℕ) → need_in nodes (suc d) k ikey up ≡ memory_needs Pointer 15 (suc d) (suc ikey) (lo, k) seen up
  unfolding need_in
  need-internode d lo k l q r s g low pos ih up =
      let num = numbered (tree_root Pointer d) in
      let ts = l ++ q ∷ r in
      let K = map num l ++ num q ∷ map num r in
      let K-is : map num ts ≡ K = map-append num l (q ∷ r) in
      let ni : node_in seen k ≡ internode_of K = g.0 ∙ ap internode_of K-is in
      let h : k < n = used-below nodes n k (rw ni tt) in
      let vw : node_view nodes k ≡ internode_of K = sym (view-at nodes n k h) ∙ ni in
      let t : T (internode_right nodes k) = internode-of nodes n N k h vw in
      let kids-is : children_of lo (node_in seen k) ≡ K =
      ap (children_of lo) g.0 ∙ children-of-internode Pointer 15 9 (λ es. 0) lo d ts pos low ∙ K-is in
      let ce : children_at nodes k ≡ map (λ (p : ℕ × ℕ). p.1) K = second (sym (view-internode nodes k t) ∙ vw) in
      let len : length K ≡ suc (count_at nodes k) =
      sym (length-map K (λ (p : ℕ × ℕ). p.1)) ∙ ap length (sym ce)
      ∙ children-length nodes k (node-fits nodes n N k h) (internode-means nodes k t)
      ∙ (let z : count_at nodes k + 1 ≡ suc (count_at nodes k) = omega arith in z) in
      let more : ℕ = split_too (count_at nodes k) up in
      let m-is : more ≡ cond (leb (length K) 15) 0 (suc up) =
      ap (λ (c : ℕ). cond {A = ℕ} (leb c 15) 0 (suc up)) (sym len) in
      ap (λ (c : ℕ). need_in nodes d c ikey more) (child-is nodes n N k ikey h (map num l) (map num r) (num q) ni
      (picks-map (tree_root Pointer d) s))
      ∙ ih more
      ∙ ap (memory_needs Pointer 15 d (suc ikey) (num q) seen) m-is
      ∙ sym (picks-child 0 (λ p. memory_needs Pointer 15 d (suc ikey) p seen (cond (leb (length K) 15) 0 (suc up)))
      (picks-map (tree_root Pointer d) s))
      ∙ ap (λ (ps : List (ℕ × ℕ)). of_child 0 (λ p. memory_needs Pointer 15 d (suc ikey) p seen (cond (leb (length ps) 15) 0 (suc up)))
      (suc ikey) ps) (sym kids-is)
    where
      second : {a b c d : List ℕ} → ◌≡◌ {A = Node Pointer} (internode a b) (internode c d) → b ≡ d
      second e = cc

  pub need-in : (d lo hi : ℕ) (p : ℕ × TreeOver Pointer d) → p.0 ≡ lo → lo ≤ suc ikey → suc ikey < hi
      → WellFormed Pointer 15 d lo hi p.1 → HoldsTree Pointer seen d p.1
      → (up : ℕ) → need_in nodes d (tree_root Pointer d p.1) ikey up
      ≡ memory_needs Pointer 15 d (suc ikey) (numbered (tree_root Pointer d) p) seen up
  need-in zero lo hi p b from to w g up = need-leaf p g up
  need-in (suc d) lo hi p b from to w g up =
      let P = picked (suc ikey) from to w.0 in
      let L = lows-agree Pointer 15 9 (λ es. 0) hi (suc d) lo hi p.1 w in
      let first_of : All (λ (y : ℕ × TreeOver Pointer d). HoldsTree Pointer seen d y.1) (P.left ++ P.chosen ∷ P.right)
      → HoldsTree Pointer seen d P.chosen.1 =
      λ a. head_of (all_split P.left (P.chosen ∷ P.right) a).1 in
      subst (λ (ts : List (ℕ × TreeOver Pointer d)). HoldsTree Pointer seen (suc d) (p.1.0, ts) → low_of_children ts ≡ p.0 → 0 < length ts
      → need_in nodes (suc d) p.1.0 ikey up ≡ memory_needs Pointer 15 (suc d) (suc ikey) (p.0, p.1.0) seen up) (sym P.whole)
      (λ g' low pos. need-internode d p.0 p.1.0 P.left P.chosen P.right P.picks g' low pos
      (need-in d P.lo P.hi P.chosen P.low P.from P.below-hi P.fits (first_of g'.1)) up)
      g (L.1 ∙ sym b) L.0

  -- of a whole layer, its height read off memory
  pub need-layer : n ≤ 255 → (hi : ℕ) → suc ikey < hi → (t : AnyTree Pointer) → HoldsAny Pointer 15 hi seen t
      → ((j : ℕ) → any_reaches Pointer t j ≤ 1)
      → need_in nodes (height_at nodes 255 (any_root Pointer t)) (any_root Pointer t) ikey 1
      ≡ memory_needs Pointer 15 (height_from (length seen) seen (any_root Pointer t)) (suc ikey) (0, any_root Pointer t) seen 1
  need-layer n≤ hi below t H once =
      let d = t.0 in
      let low = lows-agree Pointer 15 9 (λ es. 0) hi d 0 hi t.1 H.0 in
      let dp : d < length seen = height-below-length Pointer 15 seen d 0 t.1 H.1 low once in
      let h1 : height_at nodes 255 (any_root Pointer t) ≡ d =
      height-high nodes n N 255 (any_root Pointer t) ∙ height_from-is Pointer 15 seen d 255 (omega (arith, view-length nodes n)) 0 t.1
      H.1 low in
      let h2 : height_from (length seen) seen (any_root Pointer t) ≡ d =
      height_from-is Pointer 15 seen d (length seen) dp 0 t.1 H.1 low in
      ap (λ (i : ℕ). need_in nodes i (any_root Pointer t) ikey 1) h1 ∙ need-in d 0 hi (0, t.1) refl (omega arith) below H.0 H.1 1
      ∙ ap (λ (i : ℕ). memory_needs Pointer 15 i (suc ikey) (0, any_root Pointer t) seen 1) (sym h2)
