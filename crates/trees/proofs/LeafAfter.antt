-- The leaf that an ikey leads to, after a put into the tree: the one it led to before, with the changed entries, or a half of it. Assumes
-- nothing.
use mathlib.Core.Bool.{Bool, true, false, cond}
use mathlib.Core.List.{List, [], ◌∷◌, ◌++◌, append-nil}
use mathlib.Core.Option.{Option}
use mathlib.Core.Path.{◌≡◌, refl, sym, ap, ◌∙◌}
use Prim.Native.Nat.{ℕ, ◌≤◌, ◌<◌, zero, suc}
use native.Mathlib.Omega.{arith}
use lib.Dec.{leb, ltb, ltb→lt, nltb→le, nleb→lt}
use lib.ListN.{length, take, drop}
use borrow.Author.Tests.{lt-ltb, le-ltb, ltb-true}
use Rattle.order.specs.Map.{alter}
use Rattle.trees.specs.Nodes.{IkeyClass, layer_order}
use Rattle.trees.specs.Tree.{Abutting, last_child, and_next, low_of_children, TreeOver, WellFormed}
use Rattle.trees.specs.TreePut.{TreesAndFree, CutsWell, before_next, through_child, of_child, tree_put, with_root}
use Rattle.trees.specs.TreePut.{tree_leaf, any_leaf, leaf_kept}
use Rattle.trees.proofs.Nodes.{cond_ind, cond-ind₂}
use Rattle.trees.proofs.Tree.{abutting-lt, abutting-low, abutting-cut, through_child-abutting}
use Rattle.trees.proofs.TreePut.{tree_put-well-formed}

-- ---- the child that x leads to, in lists of children side by side

-- two tests change places, where the first holds only with the second
swapped : {A : Type 0} (a b : Bool) (u v w : A) → (a ≡ true → b ≡ true) → cond a u (cond b v w) ≡ cond b (cond a u v) w
swapped true true u v w f = refl
swapped true false u v w f = let e : ◌≡◌ {A = ℕ} 0 1 = cc (f refl) in absurd (omega arith)
swapped false b u v w f = refl

module _ {C A : Type 0} {R : ℕ → ℕ → C → Type 0} (z : A) (g : ℕ × C → A) (x : ℕ) where
  -- whether x lies before children side by side
  before-low : {lo hi : ℕ} {ps : List (ℕ × C)} → Abutting R hi lo ps → before_next x ps ≡ ltb x lo
  before-low (last_child e l r) = ap (ltb x) e
  before-low (and_next s e l r c) = ap (ltb x) e

  -- children that begin beyond x can be left out
  leads-first : {s lo hi : ℕ} {ps qs : List (ℕ × C)} → Abutting R s lo ps → Abutting R hi s qs → x < s
      → of_child z g x (ps ++ qs) ≡ of_child z g x ps
  leads-first {s = s} (last_child e l r) d h = rw (before-low d, lt-ltb x s h)
  leads-first (and_next t {ps = []} e l r c) d h = elim c [ ]
  leads-first (and_next t {p = p} {ps = q ∷ qs} e l r c) d h = ap (cond (ltb x q.0) (g p)) (leads-first c d h)

  -- and so can one that ends before it
  leads-later : {lo hi : ℕ} (p : ℕ × C) {ps : List (ℕ × C)} → Abutting R hi lo ps → lo ≤ x → of_child z g x (p ∷ ps) ≡ of_child z g x ps
  leads-later {lo = lo} p c h = rw (before-low c, le-ltb x lo h)

  -- cut in two: the part in which x lies
  leads-cut : {lo hi : ℕ} (c : ℕ) (ps : List (ℕ × C)) → 0 < c → c < length ps → Abutting R hi lo ps
      → cond (ltb x (low_of_children (drop c ps))) (of_child z g x (take c ps)) (of_child z g x (drop c ps)) ≡ of_child z g x ps
  leads-cut zero ps h k c = absurd (omega arith)
  leads-cut (suc zero) [] h k c = absurd (omega arith)
  leads-cut (suc zero) (p ∷ []) h k c = absurd (omega arith)
  leads-cut (suc zero) (p ∷ q ∷ qs) h k c = refl
  leads-cut (suc (suc n)) [] h k c = absurd (omega arith)
  leads-cut (suc (suc n)) (p ∷ []) h k c = absurd (omega arith)
  leads-cut (suc (suc n)) (p ∷ q ∷ qs) h k (and_next s e l r c) =
      let low : q.0 ≡ s = abutting-low c in
      let cuts = abutting-cut (suc n) (q ∷ qs) (omega arith) (omega arith) c in
      let far : s < low_of_children (drop (suc n) (q ∷ qs)) = abutting-lt cuts.0 in
      sym (swapped (ltb x q.0) (ltb x (low_of_children (drop (suc n) (q ∷ qs)))) (g p) (of_child z g x (take (suc n) (q ∷ qs)))
      (of_child z g x (drop (suc n) (q ∷ qs)))
      (λ t. lt-ltb x (low_of_children (drop (suc n) (q ∷ qs))) (omega (arith, ltb-true x q.0 t))))
      ∙ ap (cond (ltb x q.0) (g p)) (leads-cut (suc n) (q ∷ qs) (omega arith) (omega arith) c)

  -- one child changed, that to which x leads
  module _ (go : ℕ × C → List ℕ → TreesAndFree C) (fs : List ℕ) (F : A → A)
      (side : (lo hi : ℕ) (p : ℕ × C) → p.0 ≡ lo → lo ≤ x → x < hi → lo < hi → R lo hi p.1 → Abutting R hi lo (go p fs).0)
      (ok : (lo hi : ℕ) (p : ℕ × C) → p.0 ≡ lo → lo ≤ x → x < hi → lo < hi → R lo hi p.1 → of_child z g x (go p fs).0 ≡ F (g p)) where
    leads-changed : {hi lo : ℕ} {ps : List (ℕ × C)} → lo ≤ x → x < hi → Abutting R hi lo ps
        → of_child z g x (through_child go x ps fs).0 ≡ F (of_child z g x ps)
    leads-changed {hi} {lo} h k (last_child {p = p} e l r) = rw append-nil (ok lo hi p e h k l r)
    leads-changed h k (and_next s {ps = []} e l r c) = elim c [ ]
    leads-changed {hi} {lo} h k (and_next s {p = p} {ps = q ∷ qs} e l r c) =
        let low : q.0 ≡ s = abutting-low c in
        cond-ind₂ (λ (a : TreesAndFree C) (b : A). of_child z g x a.0 ≡ F b) (ltb x q.0)
        (λ t. let before : x < s = omega (arith, ltb→lt x q.0 t) in
        leads-first (side lo s p e h before l r) c before ∙ ok lo s p e h before l r)
        (λ t. let behind : s ≤ x = omega (arith, nltb→le x q.0 t) in
        leads-later p (through_child-abutting go x fs side behind k c) behind ∙ leads-changed behind k c)

-- ---- a put into a tree

module _ (W : Type 0) (top mid : ℕ) (cut : List (IkeyClass × W) → ℕ) (cut_ok : CutsWell W top mid cut) (mid-lo : 1 ≤ mid)
    (mid-hi : mid ≤ suc top) (k : IkeyClass) (kc : k.1 ≤ 9) (f : Option W → Option W) (fs : List ℕ) where
  -- the leaf among trees side by side
  abbrev leaf_among : (d : ℕ) → List (ℕ × TreeOver W d) → List (IkeyClass × W)
  leaf_among d ps = of_child [] (λ q. tree_leaf W d k.0 q.1) k.0 ps

  -- of a leaf's entries, those that are kept together after the change
  abbrev kept : List (IkeyClass × W) → List (IkeyClass × W)
  kept es = leaf_kept W top cut k.0 (alter layer_order k f es)

  tree_put-leaf : (d lo hi : ℕ) (p : ℕ × TreeOver W d) → p.0 ≡ lo → lo ≤ k.0 → k.0 < hi → lo < hi → WellFormed W top d lo hi p.1
      → leaf_among d (tree_put W top mid cut d k f p fs).0 ≡ kept (tree_leaf W d k.0 p.1)
  tree_put-leaf zero lo hi p e h i l w =
      let es = alter layer_order k f p.1.1 in
      cond-ind₂ (λ (a : TreesAndFree (TreeOver W zero)) (b : List (IkeyClass × W)). leaf_among zero a.0 ≡ b) (leb (length es) top)
      (λ t. refl) (λ t. refl)
  tree_put-leaf (suc d) lo hi p e h i l w =
      let r = through_child (tree_put W top mid cut d k f) k.0 p.1.1 fs in
      let c : Abutting (WellFormed W top d) hi lo r.0 =
      through_child-abutting (tree_put W top mid cut d k f) k.0 fs (tree_put-well-formed W top mid cut cut_ok mid-lo mid-hi k kc f fs d)
      h i w.0 in
      let inside : leaf_among d r.0 ≡ kept (leaf_among d p.1.1) =
      leads-changed [] (λ q. tree_leaf W d k.0 q.1) k.0 (tree_put W top mid cut d k f) fs kept
      (tree_put-well-formed W top mid cut cut_ok mid-lo mid-hi k kc f fs d) (tree_put-leaf d) h i w.0 in
      cond_ind (λ (a : TreesAndFree (TreeOver W (suc d))). leaf_among (suc d) a.0 ≡ kept (leaf_among d p.1.1))
      (leb (length r.0) (suc top)) (λ t. inside)
      (λ t. leads-cut [] (λ q. tree_leaf W d k.0 q.1) k.0 mid r.0 (omega arith)
      (omega (arith, nleb→lt (length r.0) (suc top) t)) c ∙ inside)

  -- a new root leads as the two below it
  root-leaf : (d : ℕ) (ps : List (ℕ × TreeOver W d)) (gs : List ℕ) → any_leaf W k.0 (with_root W d ps gs) ≡ leaf_among d ps
  root-leaf d [] gs = refl
  root-leaf d (p ∷ []) gs = refl
  root-leaf d (p ∷ q ∷ ps) gs = refl

  -- the leaf of the whole tree
  pub layer-leaf : (d hi : ℕ) (t : TreeOver W d) → k.0 < hi → WellFormed W top d 0 hi t
      → let a = tree_put W top mid cut d k f (0, t) fs in
      any_leaf W k.0 (with_root W d a.0 a.1) ≡ kept (tree_leaf W d k.0 t)
  layer-leaf d hi t i w =
      let a = tree_put W top mid cut d k f (0, t) fs in
      root-leaf d a.0 a.1 ∙ tree_put-leaf d 0 hi (0, t) refl (omega arith) i (omega arith) w
