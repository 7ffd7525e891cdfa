-- A put into a tree changes its listing as the sorted map, and keeps order, bounds and sizes. Assumes nothing.
use mathlib.Core.List.{List}
use mathlib.Core.Option.{Option}
use mathlib.Core.Path.{◌≡◌, refl, sym, ◌∙◌, subst}
use Prim.Native.Nat.{ℕ, ◌≤◌, ◌<◌, zero, suc}
use native.Mathlib.Nat.{le_refl}
use native.Mathlib.Omega.{arith}
use lib.ListN.{length, take, drop, take-append-drop, length-drop}
use lib.Seq.{length-take-le}
use Rattle.order.specs.Lists.{flattened}
use Rattle.order.specs.Map.{All, a[], ◌a∷◌, Sorted, ◌s∷◌, alter, s[]}
use Rattle.order.proofs.Lists.{flattened-append}
use Rattle.order.proofs.Map.{all_map, alter-sorted, all-zip, all_split, alter-all, alter-length, sorted-split}
use Rattle.trees.specs.Nodes.{IkeyClass, layer_order, InBounds}
use Rattle.trees.specs.Tree.{Abutting, low_of_children, TreeOver, tree_entries, WellFormed}
use Rattle.trees.specs.TreePut.{CutsWell, store_or_split, through_child, low_of_entries, tree_put, GoodCut}
use Rattle.trees.proofs.Nodes.{layer_order-le, layer-order}
use Rattle.trees.proofs.Tree.{abutting-lt, abutting-cut, well-formed-bounds, store_or_split-length, store_or_split-list}
use Rattle.trees.proofs.Tree.{store_or_split-abutting, through_child-length, through_child-abutting, through_child-list}

low-all : {W : Type 0} {l : List (IkeyClass × W)} → Sorted layer_order l → All (λ e. low_of_entries l ≤ e.0.0) l
low-all s[] = a[]
low-all (◌s∷◌ {e = e} a s) = le_refl e.0.0 a∷ all_map (λ d h. layer_order-le e.0 d.0 h) a

low-in : {W : Type 0} {lo hi : ℕ} {l : List (IkeyClass × W)} → 0 < length l → All (InBounds lo hi) l → low_of_entries l < hi
low-in h a[] = absurd (omega arith)
low-in h (p a∷ ps) = p.1

first_of : {W : Type 0} {lo hi s : ℕ} {l : List (IkeyClass × W)} → 0 < length l → All (InBounds lo hi) l → All (λ e. e.0.0 < s) l → lo < s
first_of h a[] b = absurd (omega arith)
first_of h (p a∷ ps) (q a∷ qs) = omega arith

module _ (W : Type 0) (top mid : ℕ) (cut : List (IkeyClass × W) → ℕ) where
  pub tree_put-length : (d : ℕ) (k : IkeyClass) (f : Option W → Option W) (p : ℕ × TreeOver W d) (fs : List ℕ)
      → length (tree_put W top mid cut d k f p fs).0 ≤ 2
  tree_put-length zero k f p fs =
      let es = alter layer_order k f p.1.1 in store_or_split-length low_of_entries top (cut es) p.0 p.1.0 es fs
  tree_put-length (suc d) k f p fs =
      let r = through_child (tree_put W top mid cut d k f) k.0 p.1.1 fs in
      store_or_split-length low_of_children (suc top) mid p.0 p.1.0 r.0 r.1

  pub tree_put-list : (k : IkeyClass) (f : Option W → Option W) (fs : List ℕ) (d lo hi : ℕ) (p : ℕ × TreeOver W d) → p.0 ≡ lo → lo ≤ k.0
      → k.0 < hi → lo < hi
      → WellFormed W top d lo hi p.1 → flattened (λ (q : ℕ × TreeOver W d). tree_entries W d q.1)
      (tree_put W top mid cut d k f p fs).0 ≡ alter layer_order k f (tree_entries W d p.1)
  tree_put-list k f fs zero lo hi p e h i l w =
      let es = alter layer_order k f p.1.1 in store_or_split-list low_of_entries top (cut es) p.0 p.1.0 es fs (λ es. es) (λ a b. refl)
  tree_put-list k f fs (suc d) lo hi p e h i l w =
      let r = through_child (tree_put W top mid cut d k f) k.0 p.1.1 fs in
      store_or_split-list low_of_children (suc top) mid p.0 p.1.0 r.0 r.1 (flattened (λ q. tree_entries W d q.1))
      (flattened-append (λ q. tree_entries W d q.1))
      ∙ through_child-list (tree_entries W d) (well-formed-bounds W top d) k f (tree_put W top mid cut d k f) fs (tree_put-list k f fs d) h i
      w.0

  module _ (cut_ok : CutsWell W top mid cut) (mid-lo : 1 ≤ mid) (mid-hi : mid ≤ suc top) where
    -- a leaf's halves
    pub leaf-halves : (lo hi : ℕ) (es : List (IkeyClass × W)) → Sorted layer_order es → All (InBounds lo hi) es → length es ≤ suc top
        → top < length es
        → let s = low_of_entries (drop (cut es) es) in
        (lo < s) × (s < hi) × (Sorted layer_order (take (cut es) es) × All (InBounds lo s) (take (cut es) es)
        × (length (take (cut es) es) ≤ top))
        × (Sorted layer_order (drop (cut es) es) × All (InBounds s hi) (drop (cut es) es) × (length (drop (cut es) es) ≤ top))
    leaf-halves lo hi es so al le gt =
        let ok : GoodCut W top mid cut es = cut_ok es so (all_map (λ e p. p.2) al) (omega arith) in
        let c = cut es in
        let ta : length (take c es) ≡ c = length-take-le c es (omega arith) in
        let sos = sorted-split (take c es) (drop c es) (subst (Sorted layer_order) (sym (take-append-drop c es)) so) in
        let als = all_split (take c es) (drop c es) (subst (All (InBounds lo hi)) (sym (take-append-drop c es)) al) in (
          first_of (omega arith) als.0 ok.apart,
          low-in (omega (arith, length-drop c es)) als.1,
          (sos.0, all-zip (λ e a b. (a.0, b, a.2)) als.0 ok.apart, omega arith),
          (sos.1, all-zip (λ e a b. (b, a.1, a.2)) als.1 (low-all sos.1), omega (arith, length-drop c es)),
        )

    internode-halves : (d lo hi : ℕ) (ps : List (ℕ × TreeOver W d)) → Abutting (WellFormed W top d) hi lo ps → length ps ≤ suc (suc top)
        → suc top < length ps
        → let s = low_of_children (drop mid ps) in
        (lo < s) × (s < hi) × (Abutting (WellFormed W top d) s lo (take mid ps) × (length (take mid ps) ≤ suc top))
        × (Abutting (WellFormed W top d) hi s (drop mid ps) × (length (drop mid ps) ≤ suc top))
    internode-halves d lo hi ps c le gt =
        let (a, b) = abutting-cut mid ps mid-lo (omega arith) c in
        (abutting-lt a, abutting-lt b, (a, omega (arith, length-take-le mid ps (omega arith))), (b, omega (arith, length-drop mid ps)))

    pub tree_put-well-formed : (k : IkeyClass) → k.1 ≤ 9 → (f : Option W → Option W) (fs : List ℕ) (d lo hi : ℕ) (p : ℕ × TreeOver W d)
        → p.0 ≡ lo → lo ≤ k.0 → k.0 < hi → lo < hi
        → WellFormed W top d lo hi p.1 → Abutting (WellFormed W top d) hi lo (tree_put W top mid cut d k f p fs).0
    tree_put-well-formed k kc f fs zero lo hi p e h i l w =
        let es = alter layer_order k f p.1.1 in
        let so : Sorted layer_order es = alter-sorted layer-order k f w.0 in
        let al : All (InBounds lo hi) es = alter-all layer-order k f (λ v. (h, i, kc)) w.1 in
        let le : length es ≤ suc top = omega (arith, alter-length layer-order k f p.1.1) in
        subst (λ x. Abutting (WellFormed W top zero) hi lo (store_or_split low_of_entries top (cut es) x p.1.0 es fs).0) (sym e)
        (store_or_split-abutting low_of_entries top (cut es) lo p.1.0 es fs l (λ r. (so, al, r)) (λ r. leaf-halves lo hi es so al le r))
    tree_put-well-formed k kc f fs (suc d) lo hi p e h i l w =
        let r = through_child (tree_put W top mid cut d k f) k.0 p.1.1 fs in
        let c : Abutting (WellFormed W top d) hi lo r.0 =
        through_child-abutting (tree_put W top mid cut d k f) k.0 fs (tree_put-well-formed k kc f fs d) h i w.0 in
        let le : length r.0 ≤ suc (suc top) = omega (
          arith,
          through_child-length (tree_put W top mid cut d k f) k.0 fs (λ q. tree_put-length d k f q fs) p.1.1,
        ) in
        subst (λ x. Abutting (WellFormed W top (suc d)) hi lo (store_or_split low_of_children (suc top) mid x p.1.0 r.0 r.1).0)
        (sym e)
        (store_or_split-abutting low_of_children (suc top) mid lo p.1.0 r.0 r.1 l (λ g. (c, g))
        (λ g. internode-halves d lo hi r.0 c le g))
