-- An entry more in a layer is the trees' put of that layer: its new memory, and its root. Assumes nothing.
use mathlib.Core.Path.{◌≡◌, refl, sym, ap, ◌∙◌, subst}
use mathlib.Core.Logic.{◌≢◌, ⊎_elim, ◌⊎◌, inl, inr}
use mathlib.Core.Bool.{Bool, true, false, cond}
use mathlib.Core.List.{List, [], ◌∷◌}
use mathlib.Core.Option.{none}
use Prim.Native.Nat.{ℕ, zero, suc, ◌+◌, ◌≤◌, ◌<◌}
use native.Mathlib.Omega.{arith}
use lib.Dec.{T, eqb}
use lib.ListN.{length, get_or, set, length-map, length-drop, get_or-eq_default}
use Rattle.internode.specs.Lists.{rising}
use Rattle.leaf_entries.specs.declared.Entry.{Entry}
use Rattle.arena.specs.Layout.{kind_at}
use Rattle.arena.specs.Free.{free_nodes}
use Rattle.arena.proofs.Words.{lt-or-ge}
use Rattle.forest.specs.Nodes.{children_at}
use Rattle.forest.specs.Walk.{height_at}
use Rattle.order.specs.Map.{lookup}
use Rattle.trees.specs.Nodes.{IkeyClass, layer_order, free, NodeList, node_in}
use Rattle.trees.specs.FreeNumbers.{free_numbers, times_in, lowest_free}
use Rattle.trees.specs.Tree.{numbered, AnyTree, any_root, any_entries, any_reaches, HoldsAny, tree_root, tree_reaches}
use Rattle.trees.specs.TreePut.{stays_one, layer_needs, tree_put, split_nodes}
use Rattle.trees.specs.Cut.{cut_place}
use Rattle.trees.specs.PutInMemory.{memory_put, memory_with_root, layer_put}
use Rattle.trees.specs.FindInMemory.{height_from}
use Rattle.trees.specs.Layers.{Pointer}
use Rattle.trees.proofs.PutInMemory.{TreeInStep, put-in-step}
use Rattle.trees.proofs.NeededInLayer.{tree_put-size, need-is}
use Rattle.trees.proofs.FindInTree.{height_from-is, tree_find-is}
use Rattle.trees.proofs.OneLayer.{lows-agree}
use Rattle.trees.proofs.Depth.{height-below-length}
use Rattle.model.specs.declared.Grown.{Grown}
use Rattle.model.specs.declared.Grown.TheVariants.{One, Two}
use Rattle.model.specs.Leaves.{fresh_node}
use Rattle.model.specs.Internodes.{internode_put, over_two}
use Rattle.model.specs.Grow.{node_grown, root_grown, layer_grown}
use Rattle.growth.proofs.Frames.{Same, Kind, is-free, is_leaf, is-internode, kind-of, view-free, view-leaf, view-internode}
use Rattle.growth.proofs.Memory.{both, Nodes, node-fits, View, view-at, view-length, frees-view, free_of}
use Rattle.growth.proofs.Entries.{key_of, putting}
use Rattle.growth.proofs.LeafGrown.{Grows, grown_pairs}
use Rattle.growth.proofs.InternodeWrites.{internode-put}
use Rattle.growth.proofs.ParentGrown.{same_kind}
use Rattle.growth.proofs.NodeGrown.{node-grown}

-- ---- the height

module _ (nodes : List ℕ) (n : ℕ) (N : Nodes nodes n) where
  no_node : (k : ℕ) → n ≤ k → kind_at nodes k ≡ 0
  no_node k h = get_or-eq_default nodes 0 (omega (arith, N.long))

  no-view : (k : ℕ) → n ≤ k → node_in (View nodes n) k ≡ free
  no-view k h = get_or-eq_default (View nodes n) free (omega (arith, view-length nodes n))

  -- the height over words is the trees'
  pub height-high : (i k : ℕ) → height_at nodes i k ≡ height_from i (View nodes n) k
  unfolding height_at
  height-high zero k = refl
  height-high (suc i) k =
      ⊎_elim (λ h. by h (kind-of nodes k (node-fits nodes n N k h) (N.sound k h)) (λ c. height-high i c))
      (λ h. rw (no_node k h, no-view k h)) (lt-or-ge k n)
    where
      by : k < n → Kind nodes k → ((c : ℕ) → height_at nodes i c ≡ height_from i (View nodes n) c)
          → cond (eqb (kind_at nodes k) 2) (suc (height_at nodes i (get_or (children_at nodes k) 0 0))) 0 ≡ height_from (suc i) (View nodes n) k
      by h (is-free t e) ih = rw (e, view-at nodes n k h, view-free nodes k e)
      by h (is_leaf t e) ih = rw (e, view-at nodes n k h, view-leaf nodes k t)
      by h (is-internode t e) ih = rw (e, view-at nodes n k h, view-internode nodes k t) (ap suc (ih (get_or (children_at nodes k) 0 0)))

-- ---- a new root over two

one-rises : (k : ℕ) → T (rising (k ∷ []))
unfolding rising
one-rises k = tt

-- `result` are the words of a layer that grew: those of the trees' memory, and the number of a new root in the word `holder`
pub record LayerGrows (own : ℕ → ℕ) (nodes : List ℕ) (n holder tree_root : ℕ) (result : List ℕ) (b : ℕ × NodeList Pointer) : Type 0 where
  pub grown : List ℕ
  pub still : Nodes grown n
  pub view : View grown n ≡ b.1
  pub head : (i : ℕ) → i < 2 → get_or grown i 0 ≡ get_or nodes i 0
  pub kept : (j : ℕ) → own j ≡ 0 → kind_at nodes j ≢ 0 → Same nodes grown j
  pub rooted : ((result ≡ grown) × (b.0 ≡ tree_root)) ⊎ (result ≡ set grown holder b.0)

module _ (own : ℕ → ℕ) (nodes : List ℕ) (n holder tree_root : ℕ) where
  two-roots : (nodes' : List ℕ) → Nodes nodes' n → ((i : ℕ) → i < 2 → get_or nodes' i 0 ≡ get_or nodes i 0)
      → ((j : ℕ) → own j ≡ 0 → kind_at nodes j ≢ 0 → Same nodes nodes' j) → (ikey right : ℕ) {f : ℕ} {fs : List ℕ}
      → free_nodes nodes' n ≡ f ∷ fs
      → LayerGrows own nodes n holder tree_root (root_grown n holder tree_root (nodes', Two ikey right))
      (memory_with_root Pointer ((0, tree_root) ∷ (suc ikey, right) ∷ []) (View nodes' n))
  two-roots nodes' N head kept ikey right {f} {fs} fe =
      let fr = free_of nodes' n N fe in
      let f-is : fresh_node nodes' n ≡ f = ap (λ (l : List ℕ). get_or l 0 0) fe in
      let fresh-is : lowest_free (View nodes' n) ≡ f = ap (λ (l : List ℕ). get_or l 0 0) (frees-view nodes' n N ∙ fe) in
      let W = internode-put nodes' n N f fr.0 (ikey ∷ []) (tree_root ∷ right ∷ []) (omega arith) refl (one-rises ikey) in
      rw (f-is, fresh-is) (record {
        grown = internode_put nodes' f (over_two tree_root ikey right);
        still = W.still;
        view = W.view;
        head = λ i l. W.head i l ∙ head i l;
        kept = λ j z u i l. W.others j (λ q. u (sym (same_kind nodes nodes' j (kept j z u)) ∙ ap (kind_at nodes') q ∙ fr.1)) i l
            ∙ kept j z u i l;
        rooted = inr refl;
      })

  root-grown : (nodes' : List ℕ) → Nodes nodes' n → ((i : ℕ) → i < 2 → get_or nodes' i 0 ≡ get_or nodes i 0)
      → ((j : ℕ) → own j ≡ 0 → kind_at nodes j ≢ 0 → Same nodes nodes' j) → (g : Grown)
      → (2 ≤ length (grown_pairs 0 tree_root g) → 1 ≤ length (free_numbers 0 (View nodes' n)))
      → LayerGrows own nodes n holder tree_root (root_grown n holder tree_root (nodes', g))
      (memory_with_root Pointer (grown_pairs 0 tree_root g) (View nodes' n))
  root-grown nodes' N head kept One enough = record
      { grown = nodes'; still = N; view = refl; head = head; kept = kept; rooted = inl (refl, refl) }
  root-grown nodes' N head kept (Two ikey right) enough = by (free_nodes nodes' n) refl
    where
      by : (fs : List ℕ) → free_nodes nodes' n ≡ fs
          → LayerGrows own nodes n holder tree_root (root_grown n holder tree_root (nodes', Two ikey right))
          (memory_with_root Pointer ((0, tree_root) ∷ (suc ikey, right) ∷ []) (View nodes' n))
      by [] fe =
          let z : 1 ≤ length (free_numbers 0 (View nodes' n)) = enough (omega arith) in
          absurd (omega (arith, ap length (frees-view nodes' n N ∙ fe)))
      by (f ∷ fs) fe = two-roots nodes' N head kept ikey right fe

-- ---- a layer

module _ (nodes : List ℕ) (n : ℕ) (N : Nodes nodes n) (n≤ : n ≤ 255) (e : Entry) (small : e.class ≤ 9) (hi : ℕ)
    (below : suc e.ikey < hi) (t : AnyTree Pointer) (holder : ℕ) where
  abbrev key : IkeyClass
  key = key_of e small

  abbrev seen : NodeList Pointer
  seen = View nodes n

  abbrev fs : List ℕ
  fs = free_numbers 0 seen

  abbrev d : ℕ
  d = t.0

  -- the layer's new root and memory
  abbrev pub put_layer : ℕ × NodeList Pointer
  put_layer = layer_put Pointer 15 9 cut_place d key (putting e small) (any_root Pointer t) seen

  module _ (H : HoldsAny Pointer 15 hi seen t) (once : (j : ℕ) → any_reaches Pointer t j + times_in fs j ≤ 1) where
    pub height-is : height_at nodes 255 (any_root Pointer t) ≡ d
    height-is =
        let low = lows-agree Pointer 15 9 cut_place hi d 0 hi t.1 H.0 in
        height-high nodes n N 255 (any_root Pointer t)
        ∙ height_from-is Pointer 15 seen d 255
        (omega (arith, height-below-length Pointer 15 seen d 0 t.1 H.1 low (λ j. omega (arith, once j)), view-length nodes n)) 0
        t.1 H.1 low

    module _ (new : lookup layer_order key (any_entries Pointer t) ≡ none)
        (enough : layer_needs Pointer 15 9 cut_place key (putting e small) t ≤ length fs) where
      abbrev sp : ℕ
      sp = split_nodes Pointer 15 9 cut_place d key (putting e small) (0, t.1) fs

      abbrev wh : Bool
      wh = stays_one Pointer 15 9 cut_place d key (putting e small) (0, t.1) fs

      taken : layer_needs Pointer 15 9 cut_place key (putting e small) t ≡ sp + cond wh 0 1
      taken = need-is Pointer 15 9 cut_place key (putting e small) fs d 1 (0, t.1) 0 hi H.0

      abbrev b : List (ℕ × ℕ) × NodeList Pointer
      b = memory_put Pointer 15 9 cut_place d key (putting e small) (0, any_root Pointer t) seen

      D : TreeInStep Pointer 15 9 cut_place d sp (tree_reaches Pointer d t.1) fs seen
          (tree_put Pointer 15 9 cut_place d key (putting e small) (0, t.1) fs) b
      D = put-in-step Pointer 15 9 cut_place key (putting e small) fs seen refl d (0, t.1) (omega (arith, taken))
          (lows-agree Pointer 15 9 cut_place hi d 0 hi t.1 H.0) H.1 once

      -- a new root finds a free node
      room : 2 ≤ length b.0 → 1 ≤ length (free_numbers 0 b.1)
      room h =
          let size : length b.0 ≡ cond wh 1 2 = ap length D.nums
          ∙ length-map (tree_put Pointer 15 9 cut_place d key (putting e small) (0, t.1) fs).0 (numbered (tree_root Pointer d))
          ∙ tree_put-size Pointer 15 9 cut_place key (putting e small) fs d (0, t.1) in
          by wh (omega (arith, size)) (omega (arith, taken, ap length D.left, ap length D.spent, length-drop sp fs))
        where
          by : (w : Bool) → 2 ≤ cond w 1 2 → cond w 0 1 ≤ length (free_numbers 0 b.1) → 1 ≤ length (free_numbers 0 b.1)
          by true x y = absurd (omega arith)
          by false x y = y

      G : Grows (any_reaches Pointer t) nodes n 0 (any_root Pointer t) (node_grown nodes n d (any_root Pointer t) e) b
      G = node-grown nodes n N e small d 0 hi (0, t.1) refl (omega arith) below
          (omega (arith, taken), H.0, H.1, once, tree_find-is Pointer 15 key d 0 hi (0, t.1) (omega arith) below H.0 ∙ new)

      layer-from : (R : List ℕ × Grown) → Grows (any_reaches Pointer t) nodes n 0 (any_root Pointer t) R b
          → LayerGrows (any_reaches Pointer t) nodes n holder (any_root Pointer t) (root_grown n holder (any_root Pointer t) R) put_layer
      layer-from R G =
          let q : b ≡ (grown_pairs 0 (any_root Pointer t) R.1, View R.0 n) = both (sym G.pairs) (sym G.view) in
          subst (λ (y : List (ℕ × ℕ) × NodeList Pointer). LayerGrows (any_reaches Pointer t) nodes n holder (any_root Pointer t)
          (root_grown n holder (any_root Pointer t) R) (memory_with_root Pointer y.0 y.1)) (sym q)
          (root-grown (any_reaches Pointer t) nodes n holder (any_root Pointer t) R.0 G.still G.head G.kept R.1
          (subst (λ (y : List (ℕ × ℕ) × NodeList Pointer). 2 ≤ length y.0 → 1 ≤ length (free_numbers 0 y.1)) q room))

      pub layer-grown : LayerGrows (any_reaches Pointer t) nodes n holder (any_root Pointer t)
          (layer_grown nodes n holder (any_root Pointer t) e) put_layer
      unfolding layer_grown
      layer-grown = rw height-is (layer-from (node_grown nodes n d (any_root Pointer t) e) G)
