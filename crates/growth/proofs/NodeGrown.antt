-- An entry more below a node that holds a tree is the trees' put. Assumes nothing.
use mathlib.Core.Path.{◌≡◌, refl, sym, ap, ap₂, ◌∙◌, subst}
use mathlib.Core.Bool.{cond}
use mathlib.Core.List.{List, [], ◌∷◌, ◌++◌, map, map-append}
use mathlib.Core.Option.{none}
use Prim.Native.Nat.{ℕ, zero, suc, ◌+◌, ◌≤◌, ◌<◌}
use native.Mathlib.Omega.{arith}
use lib.Dec.{T, leb}
use lib.ListN.{length, get_or, length-map, length-drop}
use lib.Seq.{get_or_at}
use borrow.Author.Tests.{lt-ltb}
use Rattle.internode.specs.Lists.{rising, after_last}
use Rattle.leaf_entries.specs.declared.Entry.{Entry}
use Rattle.forest.specs.Nodes.{ikeys_at, internode_right, leaf_right}
use Rattle.order.specs.Map.{All, ◌a∷◌, alter, lookup, Sorted}
use Rattle.order.proofs.Map.{all_split}
use Rattle.trees.specs.Nodes.{IkeyClass, layer_order, Node, internode, NodeList, node_in, one_at, InUse, leaf_entries, children_of}
use Rattle.trees.specs.FreeNumbers.{free_numbers, times_in}
use Rattle.trees.specs.Tree.{numbered, LowsAgree, Abutting, low_of_children, TreeOver, internode_of, tree_root, tree_reaches, HoldsTree}
use Rattle.trees.specs.Tree.{WellFormed}
use Rattle.trees.specs.TreePut.{tree_find, through_child, of_child, tree_put, split_nodes}
use Rattle.trees.specs.Cut.{cut_place}
use Rattle.trees.specs.PutInMemory.{write_or_split, memory_put}
use Rattle.trees.specs.Layers.{Pointer}
use Rattle.trees.proofs.Nodes.{one_at-same}
use Rattle.trees.proofs.FreeNumbers.{in-use-inside}
use Rattle.trees.proofs.Tree.{through_child-abutting}
use Rattle.trees.proofs.TreePut.{tree_put-well-formed}
use Rattle.trees.proofs.Cut.{cut-exists}
use Rattle.trees.proofs.PutInMemory.{InStep, through_child-in-step, children-of-internode, tree-framed, put-in-step}
use Rattle.trees.proofs.OneLayer.{lows-agree}
use Rattle.order.specs.Lists.{total}
use Rattle.order.proofs.Lists.{total-append}
use Rattle.views.specs.Views.{node_view}
use Rattle.model.specs.declared.Grown.{Grown}
use Rattle.model.specs.Down.{child_for}
use Rattle.model.specs.Grow.{parent_grown, node_grown}
use Rattle.growth.proofs.Frames.{view-internode}
use Rattle.growth.proofs.Memory.{both, Nodes, View, view-at, view-length, leaf-of, internode-of}
use Rattle.growth.proofs.Entries.{key_of, putting}
use Rattle.growth.proofs.LeafGrown.{Grows, grown_pairs, leaf-grown}
use Rattle.growth.proofs.InternodeWrites.{internode-means}
use Rattle.growth.proofs.Picks.{Picks, picks-child, picks-descend, picks-map, place-picked, picked, lows-rise}
use Rattle.growth.proofs.ParentGrown.{parent-grown}

-- ---- what stands in a node, as numbers

inner-parts : {a b c d : List ℕ} → ◌≡◌ {A = Node Pointer} (internode a b) (internode c d) → (a ≡ c) × (b ≡ d)
inner-parts e = (cc, cc)

lows-map : {C : Type 0} (rt : C → ℕ) (ts : List (ℕ × C)) → map (λ (p : ℕ × ℕ). p.0) (map (numbered rt) ts) ≡ map (λ (p : ℕ × C). p.0) ts
lows-map rt [] = refl
lows-map rt (t ∷ ts) = ap (t.0 ∷◌) (lows-map rt ts)

-- a node in use is one of the n
pub used-below : (nodes : List ℕ) (n k : ℕ) → InUse (node_in (View nodes n) k) → k < n
used-below nodes n k u = omega (arith, in-use-inside (View nodes n) k u, view-length nodes n)

module _ (nodes : List ℕ) (n : ℕ) (N : Nodes nodes n) where
  -- the child for an ikey is the one that is picked
  pub child-is : (k ikey : ℕ) → k < n → (l r : List (ℕ × ℕ)) (q : ℕ × ℕ) → node_in (View nodes n) k ≡ internode_of (l ++ q ∷ r)
      → Picks (suc ikey) l q r → child_for nodes k ikey ≡ q.1
  unfolding child_for
  child-is k ikey h l r q g s =
      let vw : node_view nodes k ≡ internode_of (l ++ q ∷ r) = sym (view-at nodes n k h) ∙ g in
      let t : T (internode_right nodes k) = internode-of nodes n N k h vw in
      let (ke, ce) = inner-parts (sym (view-internode nodes k t) ∙ vw) in
      let pl : after_last (λ x. leb x ikey) (ikeys_at nodes k) ≡ length l =
      place-picked ikey s (ikeys_at nodes k) (internode-means nodes k t).rises ke in
      ap₂ (λ (cs : List ℕ) (i : ℕ). get_or cs i 0) (ce ∙ map-append (λ (p : ℕ × ℕ). p.1) l (q ∷ r)) pl
      ∙ get_or_at (map (λ (p : ℕ × ℕ). p.1) l) q.1 (map (λ (p : ℕ × ℕ). p.1) r) 0 (length l) (length-map l (λ (p : ℕ × ℕ). p.1))

  module _ (e : Entry) (small : e.class ≤ 9) where
    abbrev key : IkeyClass
    key = key_of e small

    abbrev Put : (d : ℕ) → ℕ × ℕ → NodeList Pointer → List (ℕ × ℕ) × NodeList Pointer
    Put d = memory_put Pointer 15 9 cut_place d key (putting e small)

    abbrev PutT : (d : ℕ) → ℕ × TreeOver Pointer d → List ℕ → List (ℕ × TreeOver Pointer d) × List ℕ
    PutT d = tree_put Pointer 15 9 cut_place d key (putting e small)

    abbrev Splits : (d : ℕ) → ℕ × TreeOver Pointer d → List ℕ → ℕ
    Splits d = split_nodes Pointer 15 9 cut_place d key (putting e small)

    abbrev fs : List ℕ
    fs = free_numbers 0 (View nodes n)

    -- what is asked of a tree, and what is told
    abbrev Asked : (d lo hi : ℕ) → ℕ × TreeOver Pointer d → Type 0
    Asked d lo hi p =
        (Splits d p fs ≤ length fs) × WellFormed Pointer 15 d lo hi p.1 × HoldsTree Pointer (View nodes n) d p.1
        × ((j : ℕ) → tree_reaches Pointer d p.1 j + times_in fs j ≤ 1) × (tree_find Pointer d key p ≡ none)

    abbrev Told : (d : ℕ) → ℕ × TreeOver Pointer d → Type 0
    Told d p = Grows (tree_reaches Pointer d p.1) nodes n p.0 (tree_root Pointer d p.1)
        (node_grown nodes n d (tree_root Pointer d p.1) e) (Put d (numbered (tree_root Pointer d) p) (View nodes n))

    -- ---- a leaf

    leaf-step : (lo hi : ℕ) (p : ℕ × TreeOver Pointer 0) → Asked 0 lo hi p → Told 0 p
    unfolding node_grown
    leaf-step lo hi p (s, w, g, u, f) =
        let k = p.1.0 in
        let h : k < n = used-below nodes n k (rw g tt) in
        let t : T (leaf_right nodes k) = leaf-of nodes n N k h (sym (view-at nodes n k h) ∙ g) in
        let es : leaf_entries (node_in (View nodes n) k) ≡ p.1.1 = ap leaf_entries g in
        let G = leaf-grown nodes n N k h t e small p.0 (ap (lookup layer_order key) es ∙ f) (subst (Sorted layer_order) (sym es) w.0)
        (subst (λ (xs : List (IkeyClass × Pointer)). cond (leb (length (alter layer_order key (putting e small) xs)) 15) 0 1 ≤ length fs)
        (sym es) s) in
        rw (lt-ltb k n h) G

    -- ---- an internode: l, q and r are its children, q the one that is picked

    module _ (d : ℕ) (lo hi k : ℕ) (l : List (ℕ × TreeOver Pointer d)) (q : ℕ × TreeOver Pointer d) (r : List (ℕ × TreeOver Pointer d))
        (s : Picks (suc e.ikey) l q r)
        (from : lo ≤ suc e.ikey) (to : suc e.ikey < hi) (asked : Asked (suc d) lo hi (lo, (k, l ++ q ∷ r))) where
      abbrev ts : List (ℕ × TreeOver Pointer d)
      ts = l ++ q ∷ r

      abbrev seen : NodeList Pointer
      seen = View nodes n

      abbrev num : ℕ × TreeOver Pointer d → ℕ × ℕ
      num = numbered (tree_root Pointer d)

      abbrev K : List (ℕ × ℕ)
      K = map num l ++ num q ∷ map num r

      K-is : map num ts ≡ K
      K-is = map-append num l (q ∷ r)

      low : LowsAgree Pointer (suc d) (lo, (k, ts))
      low = lows-agree Pointer 15 9 cut_place hi (suc d) lo hi (k, ts) asked.1

      cost : of_child 0 (λ p. Splits d p fs) (suc e.ikey) ts ≡ Splits d q fs
      cost = picks-child 0 (λ p. Splits d p fs) s

      cost-le : of_child 0 (λ p. Splits d p fs) (suc e.ikey) ts ≤ length fs
      cost-le = omega (arith, asked.0)

      node-is : node_in seen k ≡ internode_of K
      node-is = asked.2.0 ∙ ap internode_of K-is

      k< : k < n
      k< = used-below nodes n k (rw node-is tt)

      -- what is asked of the child
      child-asked : (lo' hi' : ℕ) → WellFormed Pointer 15 d lo' hi' q.1 → Asked d lo' hi' q
      child-asked lo' hi' w = (
        omega (arith, cost, cost-le),
        w,
        first_of (all_split l (q ∷ r) asked.2.1).1,
        (λ j. omega (arith, asked.3 j, total-append (λ (p : ℕ × TreeOver Pointer d). tree_reaches Pointer d p.1 j) l (q ∷ r))),
        sym (picks-child none (tree_find Pointer d key) s) ∙ asked.4,
      )
        where
          first_of : All (λ (p : ℕ × TreeOver Pointer d). HoldsTree Pointer seen d p.1) (q ∷ r) → HoldsTree Pointer seen d q.1
          first_of (a a∷ bs) = a

      -- the trees' step over the children
      abbrev answered : List (ℕ × ℕ) × NodeList Pointer
      answered = through_child (Put d) (suc e.ikey) (map num ts) seen

      abbrev answered_t : List (ℕ × TreeOver Pointer d) × List ℕ
      answered_t = through_child (PutT d) (suc e.ikey) ts fs

      D : InStep (λ m. HoldsTree Pointer m d) (tree_reaches Pointer d) (tree_root Pointer d)
          (of_child 0 (λ p. Splits d p fs) (suc e.ikey) ts)
          (λ j. total (λ (p : ℕ × TreeOver Pointer d). tree_reaches Pointer d p.1 j) ts) fs seen answered_t answered
      D = through_child-in-step (λ m. HoldsTree Pointer m d) (tree_reaches Pointer d) (tree_root Pointer d)
          (tree-framed Pointer 15 9 cut_place d) (λ p. Splits d p fs) (suc e.ikey) (PutT d) (Put d) fs seen refl (LowsAgree Pointer d)
          (λ p l g v c. put-in-step Pointer 15 9 cut_place key (putting e small) fs seen refl d p c l g v) ts low.2
          (λ j. omega (arith, asked.3 j)) asked.2.1 cost-le

      C : Abutting (WellFormed Pointer 15 d) hi lo answered_t.0
      C = through_child-abutting (PutT d) (suc e.ikey) fs
          (tree_put-well-formed Pointer 15 9 cut_place (cut-exists 9) (omega arith) (omega arith) key small (putting e small) fs d) from to
          asked.1.0

      descends : answered ≡ (map num l ++ ((Put d (num q) seen).0 ++ map num r), (Put d (num q) seen).1)
      descends = ap (λ (ps : List (ℕ × ℕ)). through_child (Put d) (suc e.ikey) ps seen) K-is
          ∙ picks-descend (Put d) seen (picks-map (tree_root Pointer d) s)

      -- what is known of any answer of the children
      record Known (b : List (ℕ × ℕ) × NodeList Pointer) : Type 0 where
        pub kept : node_in b.1 k ≡ internode_of K
        pub rises : T (rising (map (λ (p : ℕ × ℕ). p.0) b.0))
        pub enough : cond (leb (length b.0) 16) 0 1 ≤ length (free_numbers 0 b.1)

      known : Known answered
      known =
          let same : length answered.0 ≡ length answered_t.0 = ap length D.nums ∙ length-map answered_t.0 num in
          let z : ◌≡◌ {A = ℕ} (cond (leb (length answered.0) 16) 0 1) (cond (leb (length answered_t.0) 16) 0 1) =
          ap (λ (i : ℕ). cond {A = ℕ} (leb i 16) 0 1) same in
          record {
            kept = D.same k (omega (arith, asked.3 k, one_at-same k)) (omega (arith, asked.3 k, one_at-same k)) ∙ node-is;
            rises = subst (λ (xs : List ℕ). T (rising xs))
                (sym (ap (map (λ (p : ℕ × ℕ). p.0)) D.nums ∙ lows-map (tree_root Pointer d) answered_t.0)) (lows-rise C);
            enough = omega (
              arith,
              asked.0,
              ap length D.left,
              ap length D.spent,
              length-drop (of_child 0 (λ p. Splits d p fs) (suc e.ikey) ts) fs,
            );
          }

      kids-is : children_of lo (node_in seen k) ≡ map num ts
      kids-is = ap (children_of lo) asked.2.0 ∙ children-of-internode Pointer 15 9 cut_place lo d ts low.0 low.1

      low-is : low_of_children K ≡ lo
      low-is = ap low_of_children (sym K-is) ∙ same_low ts ∙ low.1
        where
          same_low : (ps : List (ℕ × TreeOver Pointer d)) → low_of_children (map num ps) ≡ low_of_children ps
          same_low [] = refl
          same_low (p ∷ ps) = refl

      words_are : node_grown nodes n (suc d) k e ≡ parent_grown n k (node_grown nodes n d (tree_root Pointer d q.1) e)
      unfolding node_grown
      words_are = rw (lt-ltb k n k<, child-is k e.ikey k< (map num l) (map num r) (num q) node-is (picks-map (tree_root Pointer d) s))

      -- with the child's words and answer as they are told
      after-child : (R : List ℕ × Grown) → Grows (tree_reaches Pointer d q.1) nodes n q.0 (tree_root Pointer d q.1) R
          (Put d (num q) seen)
          → Grows (tree_reaches Pointer (suc d) (k, ts)) nodes n lo k (parent_grown n k R)
          (write_or_split internode_of low_of_children 16 9 lo k answered.0 answered.1)
      after-child R G =
          let ans : answered ≡ (map num l ++ (grown_pairs q.0 (tree_root Pointer d q.1) R.1 ++ map num r), View R.0 n) =
          descends ∙ both (ap (λ (ps : List (ℕ × ℕ)). map num l ++ (ps ++ map num r)) (sym G.pairs)) (sym G.view) in
          let kn : Known (map num l ++ (grown_pairs q.0 (tree_root Pointer d q.1) R.1 ++ map num r), View R.0 n) =
          subst Known ans known in
          subst (λ (b : List (ℕ × ℕ) × NodeList Pointer). Grows (tree_reaches Pointer (suc d) (k, ts)) nodes n lo k (parent_grown n k R)
          (write_or_split internode_of low_of_children 16 9 lo k b.0 b.1)) (sym ans)
          (more-own (parent-grown nodes R.0 n G.still G.head (tree_reaches Pointer d q.1) G.kept lo k k< (map num l)
          (map num r) (num q) kn.kept few low-is R.1 kn.rises kn.enough))
        where
          more-own : {R : List ℕ × Grown} {b : List (ℕ × ℕ) × NodeList Pointer}
              → Grows (λ j. one_at k j + tree_reaches Pointer d q.1 j) nodes n lo k R b
              → Grows (tree_reaches Pointer (suc d) (k, ts)) nodes n lo k R b
          more-own G = record {
            still = G.still;
            pairs = G.pairs;
            view = G.view;
            head = G.head;
            kept =
                λ j z u. G.kept j
                (omega (arith, total-append (λ (p : ℕ × TreeOver Pointer d). tree_reaches Pointer d p.1 j) l (q ∷ r))) u;
          }

          few : length K ≤ 16
          few = omega (arith, ap length K-is, length-map ts num, asked.1.1)

      internode-step : Told d q → Told (suc d) (lo, (k, ts))
      internode-step G =
          subst (λ (R : List ℕ × Grown). Grows (tree_reaches Pointer (suc d) (k, ts)) nodes n lo k R
          (write_or_split internode_of low_of_children 16 9 lo k
          (through_child (Put d) (suc e.ikey) (children_of lo (node_in seen k)) seen).0
          (through_child (Put d) (suc e.ikey) (children_of lo (node_in seen k)) seen).1)) (sym words_are)
          (subst (λ (ps : List (ℕ × ℕ)). Grows (tree_reaches Pointer (suc d) (k, ts)) nodes n lo k
          (parent_grown n k (node_grown nodes n d (tree_root Pointer d q.1) e))
          (write_or_split internode_of low_of_children 16 9 lo k (through_child (Put d) (suc e.ikey) ps seen).0
          (through_child (Put d) (suc e.ikey) ps seen).1)) (sym kids-is)
          (after-child (node_grown nodes n d (tree_root Pointer d q.1) e) G))

    -- ---- a node of any height

    pub node-grown : (d lo hi : ℕ) (p : ℕ × TreeOver Pointer d) → p.0 ≡ lo → lo ≤ suc e.ikey → suc e.ikey < hi → Asked d lo hi p
        → Told d p
    node-grown zero lo hi p b from to a = leaf-step lo hi p a
    node-grown (suc d) lo hi p b from to a =
        let P = picked (suc e.ikey) from to a.1.0 in
        subst (λ (x : ℕ). Told (suc d) (x, p.1)) (sym b)
        (subst (λ (ts : List (ℕ × TreeOver Pointer d)). Asked (suc d) lo hi (lo, (p.1.0, ts)) → Told (suc d) (lo, (p.1.0, ts)))
        (sym P.whole)
        (λ y. internode-step d lo hi p.1.0 P.left P.chosen P.right P.picks from to y
        (node-grown d P.lo P.hi P.chosen P.low P.from P.below-hi
        (child-asked d lo hi p.1.0 P.left P.chosen P.right P.picks from to y P.lo P.hi P.fits)))
        (subst (λ (x : ℕ). Asked (suc d) lo hi (x, p.1)) b a))
