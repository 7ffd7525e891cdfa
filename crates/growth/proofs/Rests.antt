-- How many slots rest in the leaf that an entry more goes into, passed up from there, over words and over the trees. Assumes nothing.
use mathlib.Core.Path.{◌≡◌, refl, sym, ap, ap₂, ◌∙◌, subst}
use mathlib.Core.Bool.{Bool, true, false, cond}
use mathlib.Core.List.{List, [], ◌∷◌, ◌++◌, map, map-append}
use mathlib.Core.Option.{none}
use Prim.Native.Nat.{ℕ, zero, suc, ◌≤◌, ◌<◌}
use native.Mathlib.Omega.{arith}
use lib.Dec.{T, ltb}
use lib.ListN.{length, length-map}
use borrow.Author.Tests.{lt-ltb}
use Rattle.leaf_entries.specs.declared.Entry.{Entry}
use Rattle.forest.specs.Nodes.{entries_at, slots_at, leaf_right}
use Rattle.forest.specs.Walk.{height_at}
use Rattle.order.specs.Map.{All, alter, lookup, Sorted}
use Rattle.order.proofs.Map.{all_split}
use Rattle.trees.specs.Nodes.{IkeyClass, layer_order, Node, leaf, NodeList, node_in, leaf_entries}
use Rattle.trees.specs.Tree.{numbered, AnyTree, any_root, any_entries, any_reaches, HoldsAny, TreeOver, internode_of, tree_root, HoldsTree}
use Rattle.trees.specs.Tree.{WellFormed}
use Rattle.trees.specs.TreePut.{of_child, tree_leaf, any_leaf, leaf_kept}
use Rattle.trees.specs.Cut.{cut_place}
use Rattle.trees.specs.Layers.{Pointer}
use Rattle.trees.proofs.FindInTree.{height_from-is, tree_find-is}
use Rattle.trees.proofs.OneLayer.{lows-agree}
use Rattle.trees.proofs.Depth.{height-below-length}
use Rattle.model.specs.Down.{leaf_for, leaf_in}
use Rattle.model.specs.Leaves.{rest_of, leaf_rests}
use Rattle.model.specs.Grow.{node_rests, layer_rests}
use Rattle.growth.proofs.Frames.{view-leaf}
use Rattle.growth.proofs.Memory.{Nodes, View, view-at, view-length, leaf-of}
use Rattle.growth.proofs.Entries.{view_of, key_of, putting}
use Rattle.growth.proofs.LeafGrown.{leaf-length, leaf-rests}
use Rattle.growth.proofs.Picks.{Picks, picks-child, picks-map, picked}
use Rattle.growth.proofs.NodeGrown.{used-below, child-is}
use Rattle.growth.proofs.LayerGrown.{height-high}
use Rattle.growth.proofs.Needs.{head_of}
use Rattle.growth.proofs.Replaced.{leaf_at, leaf-held, leaf-found, leaf-for}

-- ---- the leaf that x leads to

child-of : {C A B : Type 0} (z : A) (g : ℕ × C → A) (f : A → B) (x : ℕ) (ps : List (ℕ × C))
    → f (of_child z g x ps) ≡ of_child (f z) (λ p. f (g p)) x ps
child-of z g f x [] = refl
child-of z g f x (p ∷ []) = refl
child-of z g f x (p ∷ q ∷ ps) = rw (← child-of z g f x (q ∷ ps)) (by (ltb x q.0))
  where
    by : (b : Bool) → f (cond b (g p) (of_child z g x (q ∷ ps))) ≡ cond b (f (g p)) (f (of_child z g x (q ∷ ps)))
    by true = refl
    by false = refl

same-child : {C A : Type 0} (z : A) {g h : ℕ × C → A} → ((p : ℕ × C) → g p ≡ h p) → (x : ℕ) (ps : List (ℕ × C))
    → of_child z g x ps ≡ of_child z h x ps
same-child z e x [] = refl
same-child z e x (p ∷ []) = e p
same-child z e x (p ∷ q ∷ ps) = ap₂ (cond (ltb x q.0)) (e p) (same-child z e x (q ∷ ps))

-- its entries
pub leaf-entries : (x d : ℕ) (p : ℕ × TreeOver Pointer d) → (leaf_at d x p).1 ≡ tree_leaf Pointer d x p.1
leaf-entries x zero p = refl
leaf-entries x (suc d) p =
    child-of (0, []) (leaf_at d x) (λ (t : TreeOver Pointer 0). t.1) x p.1.1 ∙ same-child [] (leaf-entries x d) x p.1.1

-- a tree between bounds that hold x
abbrev Within : (x d lo hi : ℕ) → ℕ × TreeOver Pointer d → Type 0
Within x d lo hi p = (p.0 ≡ lo) × (lo ≤ x) × (x < hi) × WellFormed Pointer 15 d lo hi p.1

leaf-sorted : (x d lo hi : ℕ) (p : ℕ × TreeOver Pointer d) → Within x d lo hi p → Sorted layer_order (leaf_at d x p).1
leaf-sorted x zero lo hi p w = w.3.0
leaf-sorted x (suc d) lo hi p w =
    let P = picked x w.1 w.2 w.3.0 in
    let q : leaf_at (suc d) x p ≡ leaf_at d x P.chosen =
    ap (of_child (0, []) (leaf_at d x) x) P.whole ∙ picks-child (0, []) (leaf_at d x) P.picks in
    subst (λ (y : TreeOver Pointer 0). Sorted layer_order y.1) (sym q)
    (leaf-sorted x d P.lo P.hi P.chosen (P.low, P.from, P.below-hi, P.fits))

-- ---- the leaf of a layer, over words

module _ (nodes : List ℕ) (n : ℕ) (N : Nodes nodes n) (n≤ : n ≤ 255) (ikey hi : ℕ) (below : suc ikey < hi) (t : AnyTree Pointer)
    (H : HoldsAny Pointer 15 hi (View nodes n) t) (once : (j : ℕ) → any_reaches Pointer t j ≤ 1) where
  abbrev number : ℕ
  number = (leaf_at t.0 (suc ikey) (0, t.1)).0

  within : Within (suc ikey) t.0 0 hi (0, t.1)
  within = (refl, omega arith, below, H.0)

  leaf-is : node_in (View nodes n) number ≡ leaf (leaf_at t.0 (suc ikey) (0, t.1)).1
  leaf-is = leaf-held (suc ikey) (View nodes n) t.0 0 hi (0, t.1) within H.1

  inside : number < n
  inside = used-below nodes n number (rw leaf-is tt)

  right : T (leaf_right nodes number)
  right = leaf-of nodes n N number inside (sym (view-at nodes n number inside) ∙ leaf-is)

  has-entries : leaf_entries (node_in (View nodes n) number) ≡ any_leaf Pointer (suc ikey) t
  has-entries = ap leaf_entries leaf-is ∙ leaf-entries (suc ikey) t.0 (0, t.1)

  tall : height_at nodes 255 (any_root Pointer t) ≡ t.0
  tall =
      let low = lows-agree Pointer 15 9 cut_place hi t.0 0 hi t.1 H.0 in
      let deep : t.0 < length (View nodes n) = height-below-length Pointer 15 (View nodes n) t.0 0 t.1 H.1 low once in
      height-high nodes n N 255 (any_root Pointer t)
      ∙ height_from-is Pointer 15 (View nodes n) t.0 255 (omega (arith, view-length nodes n)) 0 t.1 H.1 low

  -- the words lead to it
  number_is : leaf_in nodes (any_root Pointer t) ikey ≡ number
  unfolding leaf_in
  number_is =
      ap (λ (h : ℕ). leaf_for nodes h (any_root Pointer t) ikey) tall ∙ leaf-for nodes n N ikey t.0 0 hi (0, t.1) within H.1

  -- and its size is the number of its entries
  pub leaf-size : (slots_at nodes (leaf_in nodes (any_root Pointer t) ikey)).size ≡ length (any_leaf Pointer (suc ikey) t)
  leaf-size =
      ap (λ (k : ℕ). (slots_at nodes k).size) number_is ∙ sym (leaf-length nodes number right)
      ∙ sym (length-map (entries_at nodes number) view_of)
      ∙ sym (ap (λ (x : Node Pointer). length (leaf_entries x)) (view-at nodes n number inside ∙ view-leaf nodes number right))
      ∙ ap length has-entries

-- ---- what is passed up

module _ (nodes : List ℕ) (n : ℕ) (N : Nodes nodes n) (e : Entry) where
  abbrev x : ℕ
  x = suc e.ikey

  abbrev seen : NodeList Pointer
  seen = View nodes n

  -- from an internode to the child that is picked
  rests-below : (d k : ℕ) (l : List (ℕ × TreeOver Pointer d)) (q : ℕ × TreeOver Pointer d) (r : List (ℕ × TreeOver Pointer d))
      → Picks x l q r → node_in seen k ≡ internode_of (map (numbered (tree_root Pointer d)) (l ++ q ∷ r))
      → node_rests nodes n (suc d) k e ≡ node_rests nodes n d (tree_root Pointer d q.1) e
  unfolding node_rests
  rests-below d k l q r s g =
      let num = numbered (tree_root Pointer d) in
      let ni : node_in seen k ≡ internode_of (map num l ++ num q ∷ map num r) = g ∙ ap internode_of (map-append num l (q ∷ r)) in
      let h : k < n = used-below nodes n k (rw ni tt) in
      rw (lt-ltb k n h, child-is nodes n N k e.ikey h (map num l) (map num r) (num q) ni (picks-map (tree_root Pointer d) s))

  -- what is passed up comes from the leaf
  rests-down : (d lo hi : ℕ) (p : ℕ × TreeOver Pointer d) → Within x d lo hi p → HoldsTree Pointer seen d p.1
      → node_rests nodes n d (tree_root Pointer d p.1) e ≡ leaf_rests nodes (leaf_at d x p).0 e
  unfolding node_rests
  rests-down zero lo hi p w g = rw (lt-ltb p.1.0 n (used-below nodes n p.1.0 (rw g tt)))
  rests-down (suc d) lo hi p w g =
      let P = picked x w.1 w.2 w.3.0 in
      let gs = subst (All (λ (y : ℕ × TreeOver Pointer d). HoldsTree Pointer seen d y.1)) P.whole g.1 in
      rests-below d p.1.0 P.left P.chosen P.right P.picks
      (g.0 ∙ ap (λ (ts : List (ℕ × TreeOver Pointer d)). internode_of (map (numbered (tree_root Pointer d)) ts)) P.whole)
      ∙ rests-down d P.lo P.hi P.chosen (P.low, P.from, P.below-hi, P.fits)
      (head_of (all_split P.left (P.chosen ∷ P.right) gs).1)
      ∙ ap (λ (y : TreeOver Pointer 0). leaf_rests nodes y.0 e)
      (sym (ap (of_child (0, []) (leaf_at d x) x) P.whole ∙ picks-child (0, []) (leaf_at d x) P.picks))

  -- of a whole layer
  module _ (small : e.class ≤ 9) (n≤ : n ≤ 255) (hi : ℕ) (below : suc e.ikey < hi) (t : AnyTree Pointer)
      (H : HoldsAny Pointer 15 hi seen t)
      (once : (j : ℕ) → any_reaches Pointer t j ≤ 1) (new : lookup layer_order (key_of e small) (any_entries Pointer t) ≡ none) where
    its-leaf : node_in seen (number nodes n N n≤ e.ikey hi below t H once) ≡ leaf (leaf_at t.0 x (0, t.1)).1
    its-leaf = leaf-is nodes n N n≤ e.ikey hi below t H once

    bounds : Within x t.0 0 hi (0, t.1)
    bounds = within nodes n N n≤ e.ikey hi below t H once

    none-there : lookup layer_order (key_of e small) (leaf_entries (node_in seen (number nodes n N n≤ e.ikey hi below t H once))) ≡ none
    none-there =
        ap (λ (es : List (IkeyClass × Pointer)). lookup layer_order (key_of e small) es) (ap leaf_entries its-leaf)
        ∙ sym (leaf-found (key_of e small) t.0 0 hi (0, t.1) bounds)
        ∙ tree_find-is Pointer 15 (key_of e small) t.0 0 hi (0, t.1) (omega arith) below H.0 ∙ new

    pub layer-rests : layer_rests nodes n (any_root Pointer t) e
        ≡ rest_of (length (leaf_kept Pointer 15 cut_place x (alter layer_order (key_of e small) (putting e small) (any_leaf Pointer x t))))
    unfolding layer_rests
    layer-rests =
        ap (λ (h : ℕ). node_rests nodes n h (any_root Pointer t) e) (tall nodes n N n≤ e.ikey hi below t H once)
        ∙ rests-down t.0 0 hi (0, t.1) bounds H.1
        ∙ leaf-rests nodes n N (number nodes n N n≤ e.ikey hi below t H once) (inside nodes n N n≤ e.ikey hi below t H once)
        (right nodes n N n≤ e.ikey hi below t H once) e small none-there
        (subst (Sorted layer_order) (sym (ap leaf_entries its-leaf)) (leaf-sorted x t.0 0 hi (0, t.1) bounds))
        ∙ ap (λ (es : List (IkeyClass × Pointer)).
        rest_of (length (leaf_kept Pointer 15 cut_place x (alter layer_order (key_of e small) (putting e small) es))))
        (has-entries nodes n N n≤ e.ikey hi below t H once)
