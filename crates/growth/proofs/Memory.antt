-- Words seen as a list of nodes: one node written, and the free numbers. Assumes nothing.
use mathlib.Core.Path.{◌≡◌, refl, sym, ap, ap₂, ◌∙◌, subst}
use mathlib.Core.Logic.{◌≢◌}
use mathlib.Core.List.{List, ◌∷◌}
use Prim.Native.Nat.{ℕ, zero, suc, ◌+◌, ◌*◌, ◌≤◌, ◌<◌}
use native.Mathlib.Omega.{arith}
use native.Mathlib.Decide.{ℕ_discrete}
use lib.Dec.{T}
use borrow.Author.Tests.{eqb-true}
use lib.ListN.{length, get_or, set, length-set}
use lib.Seq.{ext_get_or, get_or-set_same, get_or-set_other, set-set}
use Rattle.arena.specs.Layout.{node_start, kind_at}
use Rattle.arena.specs.Free.{cons_if, passing, is_free, free_nodes}
use Rattle.arena.proofs.Frees.{first-passing}
use Rattle.forest.specs.Nodes.{leaf_right, internode_right}
use Rattle.trees.specs.Nodes.{Node, free, leaf, internode, NodeList, node_in}
use Rattle.trees.specs.FreeNumbers.{free_numbers}
use Rattle.trees.specs.Layers.{Pointer}
use Rattle.views.specs.Views.{tabled, node_view, node_sound}
use Rattle.growth.proofs.Frames.{Same, Kind, is-free, is_leaf, is-internode, kind-of, view-leaf, view-internode, view-free}
use Rattle.growth.proofs.Frames.{node-same}

-- n nodes of lent memory as the trees have them
abbrev pub View : List ℕ → ℕ → NodeList Pointer
View nodes n = tabled (node_view nodes) 0 n

-- lent memory of n nodes, each right by itself
pub record Nodes (nodes : List ℕ) (n : ℕ) : Type 0 where
  pub long : length nodes ≡ 2 + n * 47
  pub sound : (k : ℕ) → k < n → T (node_sound nodes k)

-- two answers at once
pub both : {A B : Type 0} {a c : A} {b d : B} → a ≡ c → b ≡ d → ◌≡◌ {A = A × B} (a, b) (c, d)
both p q = λ i. (p i, q i)

-- ---- lists of so many values

module _ {A : Type 0} (f : ℕ → A) where
  pub tabled-length : (i n : ℕ) → length (tabled f i n) ≡ n
  tabled-length i zero = refl
  tabled-length i (suc n) = ap suc (tabled-length (suc i) n)

  pub tabled-at : (i n k : ℕ) (z : A) → k < n → get_or (tabled f i n) k z ≡ f (i + k)
  tabled-at i zero k z h = absurd (omega arith)
  tabled-at i (suc n) zero z h = ap f (let e : i ≡ i + 0 = omega arith in e)
  tabled-at i (suc n) (suc k) z h = tabled-at (suc i) n k z (omega arith) ∙ ap f (let e : suc i + k ≡ i + suc k = omega arith in e)

pub tabled-same : {A : Type 0} (f g : ℕ → A) → ((j : ℕ) → g j ≡ f j) → (i n : ℕ) → tabled g i n ≡ tabled f i n
tabled-same f g h i zero = refl
tabled-same f g h i (suc n) = ap₂ ◌∷◌ (h i) (tabled-same f g h (suc i) n)

pub tabled-within : {A : Type 0} (f g : ℕ → A) (i n : ℕ) → ((j : ℕ) → i ≤ j → j < i + n → g j ≡ f j) → tabled g i n ≡ tabled f i n
tabled-within f g i zero h = refl
tabled-within f g i (suc n) h = ap₂ ◌∷◌ (h i (omega arith) (omega arith))
    (tabled-within f g (suc i) n (λ j l u. h j (omega arith) (omega arith)))

-- one value is another
pub tabled-set : {A : Type 0} (f g : ℕ → A) (n k : ℕ) (x z : A) → k < n → g k ≡ x → ((j : ℕ) → j < n → j ≢ k → g j ≡ f j)
    → tabled g 0 n ≡ set (tabled f 0 n) k x
tabled-set f g n k x z h e o =
    ext_get_or z (tabled g 0 n) (set (tabled f 0 n) k x) (tabled-length g 0 n ∙ sym (length-set (tabled f 0 n) k x ∙ tabled-length f 0 n))
    (λ j l. let b : j < n = omega (arith, tabled-length g 0 n) in
    tabled-at g 0 n j z b ∙ (let q : 0 + j ≡ j = omega arith in ap g q) ∙ by j b (ℕ_discrete j k))
  where
    by : (j : ℕ) → j < n → Dec (j ≡ k) → g j ≡ get_or (set (tabled f 0 n) k x) j z
    by j b (yes q) = rw q (e ∙ sym (get_or-set_same (tabled f 0 n) k x z (omega (arith, tabled-length f 0 n))))
    by j b (no q) =
        o j b q ∙ (let r : j ≡ 0 + j = omega arith in ap f r) ∙ sym (tabled-at f 0 n j z b) ∙ sym (get_or-set_other (tabled f 0 n) k j x z q)

module _ (nodes : List ℕ) (n : ℕ) where
  pub view-length : length (View nodes n) ≡ n
  view-length = tabled-length (node_view nodes) 0 n

  pub view-at : (k : ℕ) → k < n → node_in (View nodes n) k ≡ node_view nodes k
  view-at k h = tabled-at (node_view nodes) 0 n k free h ∙ (let q : 0 + k ≡ k = omega arith in ap (node_view nodes) q)

  pub node-fits : Nodes nodes n → (k : ℕ) → k < n → node_start k + 47 ≤ length nodes
  node-fits N k h = omega (arith, N.long)

-- ---- node k written, and every word outside it as it was

pub record Wrote (nodes nodes' : List ℕ) (n k : ℕ) (x : Node Pointer) : Type 0 where
  pub still : Nodes nodes' n
  pub view : View nodes' n ≡ set (View nodes n) k x
  pub head : (i : ℕ) → i < 2 → get_or nodes' i 0 ≡ get_or nodes i 0
  pub others : (j : ℕ) → j ≢ k → Same nodes nodes' j

module _ (nodes nodes' : List ℕ) (n : ℕ) (N : Nodes nodes n) (k : ℕ) (h : k < n) (x : Node Pointer) where
  pub wrote : length nodes' ≡ length nodes → ((i : ℕ) → i < 2 → get_or nodes' i 0 ≡ get_or nodes i 0) → ((j : ℕ) → j ≢ k → Same nodes nodes' j)
      → T (node_sound nodes' k) → node_view nodes' k ≡ x → Wrote nodes nodes' n k x
  wrote len hd o t e =
      let long' : length nodes' ≡ 2 + n * 47 = len ∙ N.long in
      record {
        still = record { long = long'; sound = λ j l. by j l (ℕ_discrete j k) };
        view = tabled-set (node_view nodes) (node_view nodes') n k x free h e
            (λ j l q. (node-same nodes nodes' j (omega (arith, N.long)) (omega arith) (o j q) (N.sound j l)).1);
        head = hd;
        others = o;
      }
    where
      by : (j : ℕ) → j < n → Dec (j ≡ k) → T (node_sound nodes' j)
      by j l (yes q) = subst (λ (i : ℕ). T (node_sound nodes' i)) (sym q) t
      by j l (no q) = (node-same nodes nodes' j (omega (arith, N.long)) (omega (arith, N.long)) (o j q) (N.sound j l)).0

-- ---- the free numbers are those of the view

module _ (nodes : List ℕ) (n : ℕ) (N : Nodes nodes n) where
  frees-from : (i c : ℕ) → i + c ≤ n → free_numbers i (tabled (node_view nodes) i c) ≡ passing (is_free node_start nodes) i c
  unfolding passing
  frees-from i zero h = refl
  frees-from i (suc c) h = by (kind-of nodes i (node-fits nodes n N i (omega arith)) (N.sound i (omega arith)))
      (frees-from (suc i) c (omega arith))
    where
      by : Kind nodes i → free_numbers (suc i) (tabled (node_view nodes) (suc i) c) ≡ passing (is_free node_start nodes) (suc i) c
          → free_numbers i (node_view nodes i ∷ tabled (node_view nodes) (suc i) c)
          ≡ cons_if (is_free node_start nodes i) i (passing (is_free node_start nodes) (suc i) c)
      by (is-free t e) ih = rw (view-free nodes i e, e) (ap (i ∷◌) ih)
      by (is_leaf t e) ih = rw (view-leaf nodes i t, e) ih
      by (is-internode t e) ih = rw (view-internode nodes i t, e) ih

  pub frees-view : free_numbers 0 (View nodes n) ≡ free_nodes nodes n
  frees-view = frees-from 0 n (omega arith)

  -- what is used in the view is a node in use
  pub leaf-of : (k : ℕ) → k < n → {es : _} → node_view nodes k ≡ leaf es → T (leaf_right nodes k)
  leaf-of k h {es} e = by (kind-of nodes k (node-fits nodes n N k h) (N.sound k h))
    where
      by : Kind nodes k → T (leaf_right nodes k)
      by (is-free t q) = let z : ◌≡◌ {A = ℕ} 0 1 = cc (view-free nodes k q, e) in absurd (omega arith)
      by (is_leaf t q) = t
      by (is-internode t q) = let z : ◌≡◌ {A = ℕ} 0 1 = cc (view-internode nodes k t, e) in absurd (omega arith)

  pub internode-of : (k : ℕ) → k < n → {ks cs : List ℕ} → node_view nodes k ≡ internode ks cs → T (internode_right nodes k)
  internode-of k h {ks} {cs} e = by (kind-of nodes k (node-fits nodes n N k h) (N.sound k h))
    where
      by : Kind nodes k → T (internode_right nodes k)
      by (is-free t q) = let z : ◌≡◌ {A = ℕ} 0 1 = cc (view-free nodes k q, e) in absurd (omega arith)
      by (is_leaf t q) = let z : ◌≡◌ {A = ℕ} 0 1 = cc (view-leaf nodes k t, e) in absurd (omega arith)
      by (is-internode t q) = t

  -- the lowest free number is a node, and free
  pub free_of : {f : ℕ} {fs : List ℕ} → free_nodes nodes n ≡ f ∷ fs → (f < n) × (kind_at nodes f ≡ 0)
  free_of {f} {fs} e = let r = first-passing (is_free node_start nodes) 0 n e in (omega (arith, r.high), eqb-true _ _ r.passes)

-- two writes of one node, one after the other
pub rewrote : (nodes m0 m1 : List ℕ) (n k : ℕ) (x0 x1 : Node Pointer) → Wrote nodes m0 n k x0 → Wrote nodes m1 n k x1 → Wrote m0 m1 n k x1
rewrote nodes m0 m1 n k x0 x1 W0 W1 =
    record {
      still = W1.still;
      view = W1.view ∙ sym (ap (λ (m : NodeList Pointer). set m k x1) W0.view ∙ set-set (View nodes n) k x0 x1);
      head = λ i l. W1.head i l ∙ sym (W0.head i l);
      others = λ j ne i l. W1.others j ne i l ∙ sym (W0.others j ne i l);
    }
