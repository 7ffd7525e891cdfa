-- The search in one layer finds what its listing has; its height and its needs are read off memory. Assumes nothing.
use mathlib.Core.Bool.{Bool, true, false, cond}
use mathlib.Core.List.{List, [], ◌∷◌, ◌++◌, map, append-nil}
use mathlib.Core.Option.{Option, none, some}
use mathlib.Core.Path.{◌≡◌, refl, sym, ap, ◌∙◌, subst, ap₂}
use Prim.Native.Nat.{ℕ, ◌≤◌, ◌<◌, zero, suc}
use native.Mathlib.Omega.{arith}
use lib.Dec.{leb, ltb, ltb→lt, nltb→le}
use lib.ListN.{get_or, length, length-map}
use Rattle.order.specs.Lists.{flattened}
use Rattle.order.specs.Map.{All, a[], ◌a∷◌, Sorted, alter, lookup}
use Rattle.order.proofs.Changes.{insert-longer}
use Rattle.order.proofs.Lookup.{lookup-left, lookup-right}
use Rattle.order.proofs.Map.{all_map, sorted-append}
use Rattle.trees.specs.Nodes.{IkeyClass, layer_order, NodeList}
use Rattle.trees.specs.Tree.{numbered, LowsAgree, Abutting, last_child, and_next, TreeOver, tree_root, tree_entries, HoldsTree}
use Rattle.trees.specs.Tree.{WellFormed}
use Rattle.trees.specs.TreePut.{tree_find, tree_needs, of_child}
use Rattle.trees.specs.FindInMemory.{height_from, memory_find, memory_needs}
use Rattle.trees.proofs.Nodes.{layer_order-lt, layer-order, cond_ind, cond-ind₂}
use Rattle.trees.proofs.Tree.{abutting-low, abutting-bounds, well-formed-bounds}
use Rattle.trees.proofs.PutInMemory.{children-of-internode}
use Rattle.trees.proofs.NeededInLayer.{leb-is}

-- ---- the child of a list of numbered children

of_child-map : {C A : Type 0} (rt : C → ℕ) (z : A) (g : ℕ × ℕ → A) (h : ℕ × C → A) (x : ℕ) {ps : List (ℕ × C)}
    → All (λ p. g (numbered rt p) ≡ h p) ps
    → of_child z g x (map (numbered rt) ps) ≡ of_child z h x ps
of_child-map rt z g h x a[] = refl
of_child-map rt z g h x (q a∷ a[]) = q
of_child-map rt z g h x (◌a∷◌ {x = p} q (◌a∷◌ {x = p'} r qs)) = ap₂ (cond (ltb x p'.0)) q (of_child-map rt z g h x (r a∷ qs))

module _ (W : Type 0) (top : ℕ) where
  pub height_from-is : (m : NodeList W) (d i : ℕ) → d < i → (lo : ℕ) (t : TreeOver W d) → HoldsTree W m d t → LowsAgree W d (lo, t)
      → height_from i m (tree_root W d t) ≡ d
  height_from-is m d zero h lo t g l = absurd (omega arith)
  height_from-is m zero (suc i) h lo t g l = rw g
  height_from-is m (suc d) (suc i) h lo t g l = rw g.0
      (ap suc (go t.1 l.0 g.1 l.2 (λ p. height_from-is m d i (omega arith) p.0 p.1)))
    where
      go : (ps : List (ℕ × TreeOver W d)) → 0 < length ps → All (λ p. HoldsTree W m d p.1) ps → All (LowsAgree W d) ps
          → ((p : ℕ × TreeOver W d) → HoldsTree W m d p.1 → LowsAgree W d p → height_from i m (tree_root W d p.1) ≡ d)
          → height_from i m (get_or (map (λ (p : ℕ × ℕ). p.1) (map (numbered (tree_root W d)) ps)) 0 0) ≡ d
      go [] n hs ls f = absurd (omega arith)
      go (p ∷ ps) n (h a∷ hs) (l a∷ ls) f = f p h l

  pub memory_find-is : (k : IkeyClass) (m : NodeList W) (d : ℕ) (p : ℕ × TreeOver W d) → HoldsTree W m d p.1 → LowsAgree W d p
      → memory_find W d k (numbered (tree_root W d) p) m ≡ tree_find W d k p
  memory_find-is k m zero p h l = rw h
  memory_find-is k m (suc d) p h l = rw (h.0, children-of-internode W top 0 (λ e. 0) p.0 d p.1.1 l.0 l.1)
      (of_child-map (tree_root W d) none (λ q. memory_find W d k q m) (tree_find W d k) k.0 (go h.1 l.2 (memory_find-is k m d)))
    where
      go : {ps : List (ℕ × TreeOver W d)} → All (λ p. HoldsTree W m d p.1) ps → All (LowsAgree W d) ps
          → ((p : ℕ × TreeOver W d) → HoldsTree W m d p.1 → LowsAgree W d p
          → memory_find W d k (numbered (tree_root W d) p) m ≡ tree_find W d k p)
          → All (λ p. memory_find W d k (numbered (tree_root W d) p) m ≡ tree_find W d k p) ps
      go a[] a[] f = a[]
      go (◌a∷◌ {x = p} h hs) (l a∷ ls) f = f p h l a∷ go hs ls f

  module _ (k : IkeyClass) where
    children-find : (d : ℕ) → ((lo hi : ℕ) (p : ℕ × TreeOver W d) → lo ≤ k.0 → k.0 < hi → WellFormed W top d lo hi p.1
        → tree_find W d k p ≡ lookup layer_order k (tree_entries W d p.1))
        → {hi lo : ℕ} {ps : List (ℕ × TreeOver W d)} → lo ≤ k.0 → k.0 < hi → Abutting (WellFormed W top d) hi lo ps
        → of_child none (tree_find W d k) k.0 ps ≡ lookup layer_order k (flattened (λ p. tree_entries W d p.1) ps)
    children-find d ih {hi} {lo} h i (last_child {p = p} e l r) = ih lo hi p h i r ∙ ap (lookup layer_order k) (sym (append-nil _))
    children-find d ih h i (and_next s {ps = []} e l r c) = elim c [ ]
    children-find d ih {hi} {lo} h i (and_next s {p = p} {ps = q ∷ qs} e l r c) =
        let low : q.0 ≡ s = abutting-low c in
        let L : List (ℕ × TreeOver W d) → List (IkeyClass × W) = flattened (λ p. tree_entries W d p.1) in
        cond_ind (λ a. a ≡ lookup layer_order k (tree_entries W d p.1 ++ L (q ∷ qs))) (ltb k.0 q.0)
        (λ t. let b : k.0 < q.0 = ltb→lt _ _ t in
        ih lo s p h (omega arith) r ∙ sym (lookup-right layer-order k (tree_entries W d p.1)
        (all_map (λ e j. layer_order-lt k e.0 (omega arith)) (abutting-bounds (tree_entries W d) (well-formed-bounds W top d) c))))
        (λ t. let b : q.0 ≤ k.0 = nltb→le _ _ t in
        children-find d ih (omega arith) i c ∙ sym (lookup-left layer-order k (L (q ∷ qs))
        (all_map (λ e j. layer_order-lt e.0 k (omega arith)) (well-formed-bounds W top d lo s p.1 r))))

    pub tree_find-is : (d lo hi : ℕ) (p : ℕ × TreeOver W d) → lo ≤ k.0 → k.0 < hi → WellFormed W top d lo hi p.1
        → tree_find W d k p ≡ lookup layer_order k (tree_entries W d p.1)
    tree_find-is zero lo hi p h i w = refl
    tree_find-is (suc d) lo hi p h i w = children-find d (tree_find-is d) h i w.0

  -- ---- the listing is sorted

  abutting-sorted : (d : ℕ) → ((lo hi : ℕ) (t : TreeOver W d) → WellFormed W top d lo hi t → Sorted layer_order (tree_entries W d t))
      → {hi lo : ℕ} {ps : List (ℕ × TreeOver W d)} → Abutting (WellFormed W top d) hi lo ps
      → Sorted layer_order (flattened (λ p. tree_entries W d p.1) ps)
  abutting-sorted d ih {hi} {lo} (last_child {p = p} e l r) = subst (Sorted layer_order) (sym (append-nil _)) (ih lo hi p.1 r)
  abutting-sorted d ih {hi} {lo} (and_next s {p = p} e l r c) =
      sorted-append (ih lo s p.1 r) (abutting-sorted d ih c)
      (all_map (λ x i. all_map (λ y j. layer_order-lt x.0 y.0 (omega arith))
      (abutting-bounds (tree_entries W d) (well-formed-bounds W top d) c)) (well-formed-bounds W top d lo s p.1 r))

  pub tree-sorted : (d lo hi : ℕ) (t : TreeOver W d) → WellFormed W top d lo hi t → Sorted layer_order (tree_entries W d t)
  tree-sorted zero lo hi t w = w.0
  tree-sorted (suc d) lo hi t w = abutting-sorted d (tree-sorted d) w.0

  -- ---- a change that makes no leaf longer takes nothing

  module _ (mid : ℕ) (cut : List (IkeyClass × W) → ℕ) (k : IkeyClass) (f : Option W → Option W) (o : Option W)
      (ok : (es : List (IkeyClass × W)) → lookup layer_order k es ≡ o → length (alter layer_order k f es) ≤ length es) where
    children-need-nothing : (d up : ℕ) → ((lo hi : ℕ) (p : ℕ × TreeOver W d) → WellFormed W top d lo hi p.1 → tree_find W d k p ≡ o
        → tree_needs W top mid cut d k f p up ≡ 0)
        → {hi lo : ℕ} {ps : List (ℕ × TreeOver W d)} → Abutting (WellFormed W top d) hi lo ps
        → of_child none (tree_find W d k) k.0 ps ≡ o → of_child 0 (λ q. tree_needs W top mid cut d k f q up) k.0 ps ≡ 0
    children-need-nothing d up ih {hi} {lo} (last_child {p = p} e l r) q = ih lo hi p r q
    children-need-nothing d up ih (and_next s {ps = []} e l r c) q = elim c [ ]
    children-need-nothing d up ih {hi} {lo} (and_next s {p = p} {ps = p' ∷ ps} e l r c) q =
        cond-ind₂ (λ a b. a ≡ o → b ≡ 0) (ltb k.0 p'.0) (λ t. ih lo s p r) (λ t. children-need-nothing d up ih c) q

    pub needs-nothing : (d up lo hi : ℕ) (p : ℕ × TreeOver W d) → WellFormed W top d lo hi p.1 → tree_find W d k p ≡ o
        → tree_needs W top mid cut d k f p up ≡ 0
    needs-nothing zero up lo hi p w q = rw (leb-is (length (alter layer_order k f p.1.1)) top (omega (arith, ok p.1.1 q, w.2)))
    needs-nothing (suc d) up lo hi p w q = children-need-nothing d (cond (leb (length p.1.1) top) 0 (suc up))
        (needs-nothing d (cond (leb (length p.1.1) top) 0 (suc up))) w.0 q

  module _ (mid : ℕ) (cut : List (IkeyClass × W) → ℕ) (k : IkeyClass) (v : W) (m : NodeList W) where
    children-need-new : (d up : ℕ) → ((p : ℕ × TreeOver W d) → HoldsTree W m d p.1 → LowsAgree W d p → tree_find W d k p ≡ none
        → memory_needs W top d k.0 (numbered (tree_root W d) p) m up ≡ tree_needs W top mid cut d k (λ o. some v) p up)
        → {ps : List (ℕ × TreeOver W d)} → All (λ p. HoldsTree W m d p.1) ps → All (LowsAgree W d) ps
        → of_child none (tree_find W d k) k.0 ps ≡ none
        → of_child 0 (λ q. memory_needs W top d k.0 q m up) k.0 (map (numbered (tree_root W d)) ps)
        ≡ of_child 0 (λ q. tree_needs W top mid cut d k (λ o. some v) q up) k.0 ps
    children-need-new d up ih a[] a[] q = refl
    children-need-new d up ih (◌a∷◌ {x = p} h a[]) (l a∷ a[]) q = ih p h l q
    children-need-new d up ih (◌a∷◌ {x = p} h (◌a∷◌ {x = p'} {xs = ps} h' hs)) (l a∷ ls) q =
        go (ltb k.0 p'.0) (children-need-new d up ih (h' a∷ hs) ls) q
      where
        go : (b : Bool) → (of_child none (tree_find W d k) k.0 (p' ∷ ps) ≡ none
            → of_child 0 (λ q. memory_needs W top d k.0 q m up) k.0 (map (numbered (tree_root W d)) (p' ∷ ps))
            ≡ of_child 0 (λ q. tree_needs W top mid cut d k (λ o. some v) q up) k.0 (p' ∷ ps))
            → cond b (tree_find W d k p) (of_child none (tree_find W d k) k.0 (p' ∷ ps)) ≡ none
            → cond b (memory_needs W top d k.0 (numbered (tree_root W d) p) m up)
            (of_child 0 (λ q. memory_needs W top d k.0 q m up) k.0 (map (numbered (tree_root W d)) (p' ∷ ps)))
            ≡ cond b (tree_needs W top mid cut d k (λ o. some v) p up)
            (of_child 0 (λ q. tree_needs W top mid cut d k (λ o. some v) q up) k.0 (p' ∷ ps))
        go true f e = ih p h l e
        go false f e = f e

    pub memory_needs-new : (d up : ℕ) (p : ℕ × TreeOver W d) → HoldsTree W m d p.1 → LowsAgree W d p → tree_find W d k p ≡ none
        → memory_needs W top d k.0 (numbered (tree_root W d) p) m up ≡ tree_needs W top mid cut d k (λ o. some v) p up
    memory_needs-new zero up p h l q = rw (h, insert-longer layer_order k v p.1.1 q)
    memory_needs-new (suc d) up p h l q = rw (
      h.0,
      children-of-internode W top 0 (λ e. 0) p.0 d p.1.1 l.0 l.1,
      length-map p.1.1 (numbered (tree_root W d)),
    )
        (children-need-new d (cond (leb (length p.1.1) top) 0 (suc up))
        (memory_needs-new d (cond (leb (length p.1.1) top) 0 (suc up))) h.1 l.2 q)
