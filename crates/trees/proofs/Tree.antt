-- Children side by side, what they list within their bounds, and a list of them changed at one child. Assumes nothing.
use mathlib.Core.List.{List, [], ◌∷◌, ◌++◌, append-nil}
use mathlib.Core.Option.{Option}
use mathlib.Core.Path.{◌≡◌, refl, sym, ap, ◌∙◌, subst}
use Prim.Native.Nat.{ℕ, ◌≤◌, ◌<◌, zero, suc}
use native.Mathlib.Omega.{arith}
use lib.Dec.{leb, ltb, ltb→lt, nltb→le, leb→le, nleb→lt}
use lib.ListN.{get_or, length, take, drop, take-append-drop, length-append}
use Rattle.order.specs.Lists.{flattened}
use Rattle.order.specs.Map.{All, a[], alter}
use Rattle.order.proofs.Lists.{flattened-append}
use Rattle.order.proofs.Map.{all_map, all_append, alter-left, alter-right}
use Rattle.trees.specs.Nodes.{IkeyClass, layer_order, InBounds}
use Rattle.trees.specs.Tree.{Abutting, last_child, and_next, low_of_children, TreeOver, tree_entries, WellFormed}
use Rattle.trees.specs.TreePut.{TreesAndFree, store_or_split, before_next, through_child}
use Rattle.trees.proofs.Nodes.{layer_order-lt, layer-order, cond_ind}

module _ {C : Type 0} {R : ℕ → ℕ → C → Type 0} where
  pub abutting-lt : {hi lo : ℕ} {ps : List (ℕ × C)} → Abutting R hi lo ps → lo < hi
  abutting-lt (last_child e h r) = h
  abutting-lt (and_next s e h r c) = omega (arith, abutting-lt c)

  pub abutting-append : {s lo hi : ℕ} {ps qs : List (ℕ × C)} → Abutting R s lo ps → Abutting R hi s qs → Abutting R hi lo (ps ++ qs)
  abutting-append {s = s} (last_child e h r) d = and_next s e h r d
  abutting-append (and_next t e h r c) d = and_next t e h r (abutting-append c d)

  pub abutting-low : {lo hi : ℕ} {p : ℕ × C} {ps : List (ℕ × C)} → Abutting R hi lo (p ∷ ps) → p.0 ≡ lo
  abutting-low (last_child e h r) = e
  abutting-low (and_next s e h r c) = e

-- cut in two, where both parts have something
pub abutting-cut : {C : Type 0} {R : ℕ → ℕ → C → Type 0} {lo hi : ℕ} (c : ℕ) (ps : List (ℕ × C)) → 0 < c → c < length ps
    → Abutting R hi lo ps
    → Abutting R (low_of_children (drop c ps)) lo (take c ps) × Abutting R hi (low_of_children (drop c ps)) (drop c ps)
abutting-cut zero ps h k c = absurd (omega arith)
abutting-cut (suc zero) [] h k c = absurd (omega arith)
abutting-cut (suc zero) (p ∷ []) h k c = absurd (omega arith)
abutting-cut {R = R} {lo = lo} {hi = hi} (suc zero) (p ∷ q ∷ qs) h k (and_next s e l r c) = let f = abutting-low c in
    (subst (λ x. Abutting R x lo (p ∷ [])) (sym f) (last_child e l r), subst (λ x. Abutting R hi x (q ∷ qs)) (sym f) c)
abutting-cut (suc (suc n)) [] h k c = absurd (omega arith)
abutting-cut (suc (suc n)) (p ∷ []) h k c = absurd (omega arith)
abutting-cut (suc (suc n)) (p ∷ q ∷ qs) h k (and_next s e l r c) =
    let (a, b) = abutting-cut (suc n) (q ∷ qs) (omega arith) (omega arith) c in (and_next s e l r a, b)

-- ---- bounds of a listing

pub wider-bounds : {W : Type 0} {lo hi lo' hi' : ℕ} → lo' ≤ lo → hi ≤ hi' → {l : List (IkeyClass × W)} → All (InBounds lo hi) l
    → All (InBounds lo' hi') l
wider-bounds h k ps = all_map (λ e p. (omega arith, omega arith, p.2)) ps

module _ {W C : Type 0} {R : ℕ → ℕ → C → Type 0} (L : C → List (IkeyClass × W))
    (bound : (lo hi : ℕ) (t : C) → R lo hi t → All (InBounds lo hi) (L t)) where
  pub abutting-bounds : {hi lo : ℕ} {ps : List (ℕ × C)} → Abutting R hi lo ps → All (InBounds lo hi) (flattened (λ p. L p.1) ps)
  abutting-bounds (last_child e h r) = all_append (bound _ _ _ r) a[]
  abutting-bounds (and_next s e h r c) = all_append (wider-bounds (omega arith) (omega (arith, abutting-lt c)) (bound _ _ _ r))
      (wider-bounds (omega arith) (omega arith) (abutting-bounds c))

module _ (W : Type 0) (top : ℕ) where
  pub well-formed-bounds : (d lo hi : ℕ) (t : TreeOver W d) → WellFormed W top d lo hi t → All (InBounds lo hi) (tree_entries W d t)
  well-formed-bounds zero lo hi t w = w.1
  well-formed-bounds (suc d) lo hi t w = abutting-bounds (tree_entries W d) (well-formed-bounds d) w.0

-- ---- a node's new list in one node or in two

module _ {X : Type 0} where
  module _ (low : List X → ℕ) (room c lo n : ℕ) (xs : List X) (fs : List ℕ) where
    pub store_or_split-length : length (store_or_split low room c lo n xs fs).0 ≤ 2
    store_or_split-length = cond_ind (λ (r : TreesAndFree (ℕ × List X)). length r.0 ≤ 2) (leb (length xs) room) (λ t. omega arith)
        (λ t. omega arith)

    pub store_or_split-list : {B : Type 0} (F : List X → List B) → ((l r : List X) → F (l ++ r) ≡ F l ++ F r)
        → flattened (λ (p : ℕ × (ℕ × List X)). F p.1.1) (store_or_split low room c lo n xs fs).0 ≡ F xs
    store_or_split-list F hom = cond_ind (λ (r : TreesAndFree (ℕ × List X)). flattened (λ p. F p.1.1) r.0 ≡ F xs)
        (leb (length xs) room)
        (λ t. append-nil (F xs)) (λ t. rw append-nil (sym (hom (take c xs) (drop c xs)) ∙ ap F (take-append-drop c xs)))

    pub store_or_split-abutting : {hi : ℕ} {R : ℕ → ℕ → ℕ × List X → Type 0} → lo < hi → (length xs ≤ room → R lo hi (n, xs))
        → (room < length xs → (lo < low (drop c xs)) × (low (drop c xs) < hi) × R lo (low (drop c xs)) (n, take c xs)
        × R (low (drop c xs)) hi (get_or fs 0 0, drop c xs))
        → Abutting R hi lo (store_or_split low room c lo n xs fs).0
    store_or_split-abutting {hi} {R} h one two = cond_ind (λ (r : TreesAndFree (ℕ × List X)). Abutting R hi lo r.0) (leb (length xs) room)
        (λ t. last_child refl h (one (leb→le _ _ t)))
        (λ t. let (a, b, r, u) = two (nleb→lt _ _ t) in and_next (low (drop c xs)) refl a r (last_child refl b u))

module _ {C : Type 0} (go : ℕ × C → List ℕ → TreesAndFree C) (x : ℕ) (fs : List ℕ) where
  pub through_child-length : ((p : ℕ × C) → length (go p fs).0 ≤ 2) → (ps : List (ℕ × C))
      → length (through_child go x ps fs).0 ≤ suc (length ps)
  through_child-length h [] = omega arith
  through_child-length h (p ∷ ps) = cond_ind (λ (r : TreesAndFree C). length r.0 ≤ suc (suc (length ps))) (before_next x ps)
      (λ t. omega (arith, h p, length-append (go p fs).0 ps)) (λ t. omega (arith, through_child-length h ps))

  pub through_child-abutting : {R : ℕ → ℕ → C → Type 0}
      → ((lo hi : ℕ) (p : ℕ × C) → p.0 ≡ lo → lo ≤ x → x < hi → lo < hi → R lo hi p.1 → Abutting R hi lo (go p fs).0)
      → {hi lo : ℕ} {ps : List (ℕ × C)} → lo ≤ x → x < hi → Abutting R hi lo ps → Abutting R hi lo (through_child go x ps fs).0
  through_child-abutting f {hi} {lo} h k (last_child {p = p} e l r) = rw append-nil (f lo hi p e h k l r)
  through_child-abutting f h k (and_next s {ps = []} e l r c) = elim c [ ]
  through_child-abutting {R} f {hi} {lo} h k (and_next s {p = p} {ps = q ∷ qs} e l r c) =
      let low : q.0 ≡ s = abutting-low c in
      cond_ind (λ (r : TreesAndFree C). Abutting R hi lo r.0) (ltb x q.0)
      (λ t. abutting-append (f lo s p e h (omega (arith, ltb→lt x q.0 t)) l r) c)
      (λ t. and_next s e l r (through_child-abutting f (omega (arith, nltb→le x q.0 t)) k c))

module _ {W C : Type 0} {R : ℕ → ℕ → C → Type 0} (L : C → List (IkeyClass × W))
    (bound : (lo hi : ℕ) (t : C) → R lo hi t → All (InBounds lo hi) (L t))
    (k : IkeyClass) (f : Option W → Option W) (go : ℕ × C → List ℕ → TreesAndFree C) (fs : List ℕ)
    (ok : (lo hi : ℕ) (p : ℕ × C) → p.0 ≡ lo → lo ≤ k.0 → k.0 < hi → lo < hi → R lo hi p.1
    → flattened (λ (q : ℕ × C). L q.1) (go p fs).0 ≡ alter layer_order k f (L p.1)) where
  -- the entries below a child
  abbrev entries_of_child : ℕ × C → List (IkeyClass × W)
  entries_of_child p = L p.1

  pub through_child-list : {hi lo : ℕ} {ps : List (ℕ × C)} → lo ≤ k.0 → k.0 < hi → Abutting R hi lo ps
      → flattened entries_of_child (through_child go k.0 ps fs).0 ≡ alter layer_order k f (flattened entries_of_child ps)
  through_child-list {hi} {lo} h i (last_child {p = p} e l r) = rw (append-nil, append-nil) (ok lo hi p e h i l r)
  through_child-list h i (and_next s {ps = []} e l r c) = elim c [ ]
  through_child-list {hi} {lo} h i (and_next s {p = p} {ps = q ∷ qs} e l r c) =
      let low : q.0 ≡ s = abutting-low c in
      cond_ind (λ (r : TreesAndFree C). flattened entries_of_child r.0
      ≡ alter layer_order k f (entries_of_child p ++ flattened entries_of_child (q ∷ qs))) (ltb k.0 q.0)
      (λ t. let b : k.0 < q.0 = ltb→lt _ _ t in
      rw (flattened-append, ok lo s p e h (omega arith) l r)
      (sym (alter-right layer-order k f (entries_of_child p)
      (all_map (λ e j. layer_order-lt k e.0 (omega arith)) (abutting-bounds L bound c)))))
      (λ t. let b : q.0 ≤ k.0 = nltb→le _ _ t in
      rw (through_child-list (omega arith) i c)
      (sym (alter-left layer-order k f (flattened entries_of_child (q ∷ qs))
      (all_map (λ e j. layer_order-lt e.0 k (omega arith)) (bound lo s p.1 r)))))
