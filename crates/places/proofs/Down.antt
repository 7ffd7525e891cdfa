-- Down the tree of one layer: the leaf that an ikey leads to in lent memory is the one that the trees' search looks into. Assumes
-- nothing.
use mathlib.Core.Path.{◌≡◌, refl, sym, ap, ◌∙◌, subst}
use mathlib.Core.Bool.{Bool, true, false, cond}
use mathlib.Core.List.{List, [], ◌∷◌, map}
use mathlib.Core.Option.{none}
use Prim.Native.Nat.{ℕ, zero, suc, ◌≤◌, ◌<◌}
use native.Mathlib.Omega.{arith}
use lib.Dec.{eqb, leb, ltb}
use lib.ListN.{length, get_or, drop}
use borrow.Author.Tests.{eqb-true, ltb-true, ltb-false, le-leb, lt-leb}
use Rattle.internode.specs.Lists.{after_last, one_more_or}
use Rattle.arena.specs.Layout.{kind_at}
use Rattle.forest.specs.Nodes.{entries_at, ikeys_at, children_at}
use Rattle.model.specs.Down.{child_for, leaf_for}
use Rattle.order.specs.Map.{All, a[], ◌a∷◌, lookup, Sorted}
use Rattle.order.proofs.Map.{all_map}
use Rattle.trees.specs.Nodes.{IkeyClass, layer_order, Node, free, leaf, internode, NodeList, node_in, leaf_entries}
use Rattle.trees.specs.Tree.{numbered, Abutting, last_child, and_next, TreeOver, tree_root, tree_reaches, HoldsTree, WellFormed}
use Rattle.trees.specs.TreePut.{tree_find, before_next, of_child}
use Rattle.trees.specs.Layers.{Pointer}
use Rattle.trees.proofs.Nodes.{one_at-same}
use Rattle.trees.proofs.Tree.{abutting-low}
use Rattle.order.specs.Lists.{total}
use Rattle.views.specs.Views.{node_view}
use Rattle.places.proofs.Entries.{view_all}

-- ---- the child that an ikey leads to

-- the one that the search takes has P
pub data Picked {C : Type 0} (x : ℕ) (P : ℕ × C → Type 0) : List (ℕ × C) → Type 0 where
  here : {p : ℕ × C} {ps : List (ℕ × C)} → before_next x ps ≡ true → P p → Picked x P (p ∷ ps)
  later : {p : ℕ × C} {ps : List (ℕ × C)} → before_next x ps ≡ false → Picked x P ps → Picked x P (p ∷ ps)

-- the tree leads x to leaf n
abbrev pub Leads : ℕ → (d : ℕ) → TreeOver Pointer d → ℕ → Type 0
Leads x zero t n = t.0 ≡ n
Leads x (suc d) t n = Picked x (λ p. Leads x d p.1 n) t.1

one_more : (a : ℕ) → one_more_or a true ≡ suc a
one_more zero = refl
one_more (suc a) = refl

module _ {C : Type 0} {R : ℕ → ℕ → C → Type 0} (ikey : ℕ) where
  beyond : {lo hi : ℕ} {q : ℕ × C} {qs : List (ℕ × C)} (ks : List ℕ) → Abutting R hi lo (q ∷ qs) → map suc ks ≡ map (λ p. p.0) qs
      → suc ikey < lo
      → after_last (λ k. leb k ikey) ks ≡ 0
  unfolding after_last
  beyond [] c e h = refl
  beyond (k ∷ ks) (last_child a b r) e h = let z : ◌≡◌ {A = ℕ} 0 1 = cc in absurd (omega arith)
  beyond {qs = []} (k ∷ ks) (and_next s a b r c) e h = elim c [ ]
  beyond {lo = lo} (k ∷ ks) (and_next s {ps = p ∷ ps} a b r c) e h =
      let first : suc k ≡ p.0 = cc in
      let low : p.0 ≡ s = abutting-low c in
      let others : map suc ks ≡ map (λ p. p.0) ps = cc in
      rw (beyond {lo = s} ks c others (omega arith), lt-leb k ikey (omega arith))

  pick-child : (P : ℕ × C → ℕ → Type 0) (rt : C → ℕ) {lo hi : ℕ} {ps : List (ℕ × C)} (ks : List ℕ) → Abutting R hi lo ps
      → map suc ks ≡ map (λ p. p.0) (drop 1 ps)
      → All (λ p. P p (rt p.1)) ps → Picked (suc ikey) (λ p. P p (get_or (map (λ p. rt p.1) ps) (after_last (λ k. leb k ikey) ks) 0)) ps
  unfolding after_last
  pick-child P rt [] (last_child a b r) e (h a∷ a[]) = here refl h
  pick-child P rt (k ∷ ks) (last_child a b r) e hs = let z : ◌≡◌ {A = ℕ} 0 1 = cc in absurd (omega arith)
  pick-child P rt [] (and_next s {ps = []} a b r c) e hs = elim c [ ]
  pick-child P rt (k ∷ ks) (and_next s {ps = []} a b r c) e hs = elim c [ ]
  pick-child P rt [] (and_next s {ps = q ∷ qs} a b r c) e hs = let z : ◌≡◌ {A = ℕ} 0 1 = cc in absurd (omega arith)
  pick-child P rt {lo = lo} (k ∷ ks) (and_next s {p = p} {ps = q ∷ qs} a b r c) e (h a∷ hs) =
      let first : suc k ≡ q.0 = cc in
      let others : map suc ks ≡ map (λ p. p.0) qs = cc in
      go first others (ltb (suc ikey) q.0) refl (pick-child P rt {lo = s} ks c others hs)
    where
      tops : List ℕ
      tops = map (λ p. rt p.1) (q ∷ qs)

      go : suc k ≡ q.0 → map suc ks ≡ map (λ p. p.0) qs → (t : Bool) → ltb (suc ikey) q.0 ≡ t
          → Picked (suc ikey) (λ p. P p (get_or tops (after_last (λ k. leb k ikey) ks) 0)) (q ∷ qs)
          → Picked (suc ikey) (λ x. P x (get_or (rt p.1 ∷ tops) (one_more_or (after_last (λ k. leb k ikey) ks) (leb k ikey)) 0)) (p ∷ q ∷ qs)
      go f o true w ih =
          let far : suc ikey < q.0 = ltb-true (suc ikey) q.0 w in
          let low : q.0 ≡ s = abutting-low c in
          here {p = p} {ps = q ∷ qs} w (rw (beyond ks c o (omega arith), lt-leb k ikey (omega arith)) h)
      go f o false w ih =
          let near : q.0 ≤ suc ikey = ltb-false (suc ikey) q.0 w in
          later {p = p} {ps = q ∷ qs} w (rw (le-leb k ikey (omega arith), one_more (after_last (λ k. leb k ikey) ks)) ih)

-- ---- from a node down

module _ (nodes : List ℕ) (M : NodeList Pointer) (seen : (k : ℕ) → node_in M k ≡ node_view nodes k) where
  -- what stands in memory, by what is seen
  abbrev kids_of : Node Pointer → List ℕ × List ℕ
  kids_of free = ([], [])
  kids_of (leaf es) = ([], [])
  kids_of (internode ks cs) = (ks, cs)

  pub inner-words : (n : ℕ) (ks cs : List ℕ) → node_in M n ≡ internode ks cs
      → (kind_at nodes n ≡ 2) × (map suc (ikeys_at nodes n) ≡ ks) × (children_at nodes n ≡ cs)
  unfolding node_view
  inner-words n ks cs e = go (eqb (kind_at nodes n) 1) (eqb (kind_at nodes n) 2) (eqb-true (kind_at nodes n) 2) (sym (seen n) ∙ e)
    where
      go : (a b : Bool) → (b ≡ true → kind_at nodes n ≡ 2)
          → cond a (leaf (view_all (entries_at nodes n))) (cond b (internode (map suc (ikeys_at nodes n)) (children_at nodes n)) free)
          ≡ internode ks cs
          → (kind_at nodes n ≡ 2) × (map suc (ikeys_at nodes n) ≡ ks) × (children_at nodes n ≡ cs)
      go true b f q = let z : ◌≡◌ {A = ℕ} 0 1 = cc in absurd (omega arith)
      go false true f q = (f refl, ap (λ (x : Node Pointer). (kids_of x).0) q, ap (λ (x : Node Pointer). (kids_of x).1) q)
      go false false f q = let z : ◌≡◌ {A = ℕ} 0 1 = cc in absurd (omega arith)

  pub leaf-words : (n : ℕ) (es : List (IkeyClass × Pointer)) → node_in M n ≡ leaf es
      → (kind_at nodes n ≡ 1) × (view_all (entries_at nodes n) ≡ es)
  unfolding node_view
  leaf-words n es e = go (eqb (kind_at nodes n) 1) (eqb (kind_at nodes n) 2) (eqb-true (kind_at nodes n) 1) (sym (seen n) ∙ e)
    where
      go : (a b : Bool) → (a ≡ true → kind_at nodes n ≡ 1)
          → cond a (leaf (view_all (entries_at nodes n))) (cond b (internode (map suc (ikeys_at nodes n)) (children_at nodes n)) free)
          ≡ leaf es
          → (kind_at nodes n ≡ 1) × (view_all (entries_at nodes n) ≡ es)
      go true b f q = (f refl, ap leaf_entries q)
      go false true f q = let z : ◌≡◌ {A = ℕ} 0 1 = cc in absurd (omega arith)
      go false false f q = let z : ◌≡◌ {A = ℕ} 0 1 = cc in absurd (omega arith)

  -- the leaf of an ikey
  tops-map : (d : ℕ) (ps : List (ℕ × TreeOver Pointer d))
      → map (λ (p : ℕ × ℕ). p.1) (map (numbered (tree_root Pointer d)) ps) ≡ map (λ p. tree_root Pointer d p.1) ps
  tops-map d [] = refl
  tops-map d (p ∷ ps) = ap (λ (l : List ℕ). tree_root Pointer d p.1 ∷ l) (tops-map d ps)

  lows-map : (d : ℕ) (ps : List (ℕ × TreeOver Pointer d))
      → map (λ (p : ℕ × ℕ). p.0) (drop 1 (map (numbered (tree_root Pointer d)) ps)) ≡ map (λ p. p.0) (drop 1 ps)
  lows-map d [] = refl
  lows-map d (p ∷ ps) = each ps
    where
      each : (ps : List (ℕ × TreeOver Pointer d)) → map (λ (p : ℕ × ℕ). p.0) (map (numbered (tree_root Pointer d)) ps) ≡ map (λ p. p.0) ps
      each [] = refl
      each (p ∷ ps) = ap (λ (l : List ℕ). p.0 ∷ l) (each ps)

  module _ (top ikey : ℕ) where
    abbrev LeadsDown : (d : ℕ) → ℕ × TreeOver Pointer d → ℕ → Type 0
    LeadsDown d p n = Leads (suc ikey) d p.1 (leaf_for nodes d n ikey)

    pub leads : (d lo hi : ℕ) (t : TreeOver Pointer d) → WellFormed Pointer top d lo hi t → HoldsTree Pointer M d t
        → Leads (suc ikey) d t (leaf_for nodes d (tree_root Pointer d t) ikey)
    unfolding leaf_for child_for
    leads zero lo hi t w h = refl
    leads (suc d) lo hi t w h =
        let (kind, ks, cs) = inner-words t.0 _ _ h.0 in
        rw (cs, tops-map d t.1) (pick-child ikey (LeadsDown d) (tree_root Pointer d) (ikeys_at nodes t.0) w.0
        (ks ∙ lows-map d t.1) (go w.0 h.1 (leads d)))
      where
        go : {hi lo : ℕ} {ps : List (ℕ × TreeOver Pointer d)} → Abutting (WellFormed Pointer top d) hi lo ps
            → All (λ p. HoldsTree Pointer M d p.1) ps
            → ((lo hi : ℕ) (t : TreeOver Pointer d) → WellFormed Pointer top d lo hi t → HoldsTree Pointer M d t
            → Leads (suc ikey) d t (leaf_for nodes d (tree_root Pointer d t) ikey))
            → All (λ p. LeadsDown d p (tree_root Pointer d p.1)) ps
        go (last_child {p = p} a b r) (h a∷ a[]) f = f _ _ p.1 r h a∷ a[]
        go (and_next s {p = p} a b r c) (h a∷ hs) f = f _ _ p.1 r h a∷ go c hs f

-- ---- what the leaf has, and what is found there

-- a leaf that is right by itself
pub record LeafIn (M : NodeList Pointer) (top n : ℕ) : Type 0 where
  pub has : List (IkeyClass × Pointer)
  pub is_leaf : node_in M n ≡ leaf has
  pub sorted : Sorted layer_order has
  pub classes : All (λ e. e.0.1 ≤ 9) has
  pub short : length has ≤ top

module _ (M : NodeList Pointer) (top : ℕ) where
  pub lead-leaf : (x d lo hi n : ℕ) (t : TreeOver Pointer d) → WellFormed Pointer top d lo hi t → HoldsTree Pointer M d t → Leads x d t n
      → LeafIn M top n
  lead-leaf x zero lo hi n t w h l =
      subst (LeafIn M top) l (record { has = t.1; is_leaf = h; sorted = w.0; classes = all_map (λ e b. b.2) w.1; short = w.2 })
  lead-leaf x (suc d) lo hi n t w h l = go w.0 h.1 l (λ lo hi t. lead-leaf x d lo hi n t)
    where
      go : {hi lo : ℕ} {ps : List (ℕ × TreeOver Pointer d)} → Abutting (WellFormed Pointer top d) hi lo ps
          → All (λ p. HoldsTree Pointer M d p.1) ps
          → Picked x (λ p. Leads x d p.1 n) ps → ((lo hi : ℕ) (t : TreeOver Pointer d) → WellFormed Pointer top d lo hi t
          → HoldsTree Pointer M d t → Leads x d t n → LeafIn M top n)
          → LeafIn M top n
      go (last_child {p = p} a b r) (h a∷ hs) (here q l) f = f _ _ p.1 r h l
      go (last_child {p = p} a b r) (h a∷ hs) (later q l) f = let z : ◌≡◌ {A = ℕ} 0 1 = cc in absurd (omega arith)
      go (and_next s {p = p} a b r c) (h a∷ hs) (here q l) f = f _ _ p.1 r h l
      go (and_next s {p = p} a b r c) (h a∷ hs) (later q l) f = go c hs l f

  -- the leaf is one of the tree's nodes
  pub lead-counted : (x d n : ℕ) (t : TreeOver Pointer d) → Leads x d t n → 1 ≤ tree_reaches Pointer d t n
  lead-counted x zero n t l = rw l (omega (arith, one_at-same n))
  lead-counted x (suc d) n t l = omega (arith, go l (lead-counted x d n))
    where
      go : {ps : List (ℕ × TreeOver Pointer d)} → Picked x (λ p. Leads x d p.1 n) ps
          → ((t : TreeOver Pointer d) → Leads x d t n → 1 ≤ tree_reaches Pointer d t n)
          → 1 ≤ total (λ p. tree_reaches Pointer d p.1 n) ps
      go (here {p = p} q l) f = omega (arith, f p.1 l)
      go (later q l) f = omega (arith, go l f)

  -- the trees' search is a lookup in it
  pub lead-found : (k : IkeyClass) (d n : ℕ) (p : ℕ × TreeOver Pointer d) → HoldsTree Pointer M d p.1 → Leads k.0 d p.1 n
      → tree_find Pointer d k p ≡ lookup layer_order k (leaf_entries (node_in M n))
  lead-found k zero n p h l = sym (ap (λ (x : Node Pointer). lookup layer_order k (leaf_entries x)) (ap (node_in M) (sym l) ∙ h))
  lead-found k (suc d) n p h l = go h.1 l (lead-found k d n)
    where
      go : {ps : List (ℕ × TreeOver Pointer d)} → All (λ p. HoldsTree Pointer M d p.1) ps
          → Picked k.0 (λ p. Leads k.0 d p.1 n) ps
          → ((p : ℕ × TreeOver Pointer d) → HoldsTree Pointer M d p.1 → Leads k.0 d p.1 n
          → tree_find Pointer d k p ≡ lookup layer_order k (leaf_entries (node_in M n)))
          → of_child none (tree_find Pointer d k) k.0 ps ≡ lookup layer_order k (leaf_entries (node_in M n))
      go a[] x7 f = elim x7 [ ]
      go (h a∷ hs) (here {p = p} q l) f = rw q (f p h l)
      go (h a∷ hs) (later q l) f = rw q (go hs l f)
