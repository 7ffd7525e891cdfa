-- Memory is at most one tree: from the root on, each node says what stands below it. Assumes nothing.
use mathlib.Core.Path.{◌≡◌, refl, sym, ap, ◌∙◌, subst}
use mathlib.Core.Logic.{inl, inr}
use mathlib.Core.List.{List, [], ◌∷◌, map}
use Prim.Native.Nat.{ℕ, zero, suc, ◌+◌}
use native.Mathlib.Omega.{arith}
use lib.ListN.{drop}
use Rattle.order.specs.Map.{All, a[], ◌a∷◌}
use Rattle.arena.specs.Memory.{Memory}
use Rattle.forest.specs.Nodes.{entries_at, ikeys_at, children_at}
use Rattle.forest.specs.Trees.{Key, Ref, seen_as, Tree, top_of, entries_of, Holds}
use Rattle.forest.specs.Trees.{Between, last, next, Bounded, leftmost, rightmost}
use Rattle.forest.specs.Layers.{Tall, Value, Layer, root_of, ref_of, HeldBy, Held, InEdgesBy, InEdges}
use Rattle.forest.specs.IsTree.{Layers, Forest, IsTree}
use Rattle.forest.specs.Walk.{height_at}
use Rattle.forest.proofs.NodeWalk.{first_edge}
use Rattle.forest.proofs.LayerWalk.{as_refs}
use Rattle.forest.proofs.Heights.{height-found}

module _ (nodes : List ℕ) where
  -- ---- trees of one height

  -- trees of this height with the same top and the same left edge are the same
  abbrev Same : ℕ → Type 0
  Same h =
      (lo hi hi' : ℕ) (t u : Tree h) → top_of h t ≡ top_of h u → Holds nodes h t → Holds nodes h u
      → Bounded h lo hi t → Bounded h lo hi' u → t ≡ u

  module _ (h : ℕ) (same : Same h) where
    abbrev edges : List (ℕ × Tree h) → List ℕ
    edges ps = map (λ p. p.0) (drop 1 ps)

    abbrev tops : List (ℕ × Tree h) → List ℕ
    tops ps = map (λ p. top_of h p.1) ps

    abbrev AllHeld : List (ℕ × Tree h) → Type 0
    AllHeld ps = All (λ p. Holds nodes h p.1) ps

    children-same : (lo hi hi' : ℕ) (ps qs : List (ℕ × Tree h)) → edges ps ≡ edges qs → tops ps ≡ tops qs → AllHeld ps → AllHeld qs
        → Between (Bounded h) hi lo ps → Between (Bounded h) hi' lo qs → ps ≡ qs
    children-same lo hi hi' [] qs e f hs gs r s = elim r [ ]
    children-same lo hi hi' (p ∷ ps) [] e f hs gs r s = elim s [ ]
    children-same lo hi hi' (p ∷ []) (q ∷ []) e f (a a∷ a[]) (b a∷ a[]) (last x lt r) (last y lu s) =
        let k : p.0 ≡ q.0 = cc in
        let t : p.1 ≡ q.1 = same lo hi hi' p.1 q.1 (cc) a b r s in
        λ i. (k i, t i) ∷ []
    children-same lo hi hi' (p ∷ []) (q ∷ qs) e f hs gs (last x lt r) (next edge y lu s rest) =
        let g = first_edge rest in let z : ◌≡◌ {A = ℕ} 0 1 = cc in absurd (omega arith)
    children-same lo hi hi' (p ∷ ps) (q ∷ []) e f hs gs (next edge x lt r rest) (last y lu s) =
        let g = first_edge rest in let z : ◌≡◌ {A = ℕ} 0 1 = cc in absurd (omega arith)
    children-same lo hi hi' (p ∷ ps) (q ∷ qs) e f (a a∷ hs) (b a∷ gs) (next edge x lt r rest) (next edge' y lu s rest') =
        let k : p.0 ≡ q.0 = cc in
        let t : p.1 ≡ q.1 = same lo edge edge' p.1 q.1 (cc) a b r s in
        let c : edge ∷ edges ps ≡ edge' ∷ edges qs = sym (first_edge rest) ∙ e ∙ first_edge rest' in
        let d : edge' ≡ edge = cc in
        let beside : Between (Bounded h) hi' edge qs = subst (λ (k : ℕ). Between (Bounded h) hi' k qs) d rest' in
        let later : ps ≡ qs = children-same edge hi hi' ps qs (cc) (cc) hs gs rest beside in
        λ i. (k i, t i) ∷ later i

  tree-same : (h : ℕ) → Same h
  tree-same zero lo hi hi' t u top a b r s =
      let q : t.1 ≡ u.1 = sym a.1 ∙ ap (λ (n : ℕ). map seen_as (entries_at nodes n)) top ∙ b.1 in
      λ i. (top i, q i)
  tree-same (suc h) lo hi hi' t u top a b r s =
      let e = sym a.1 ∙ ap (λ (n : ℕ). map suc (ikeys_at nodes n)) top ∙ b.1 in
      let f = sym a.2 ∙ ap (children_at nodes) top ∙ b.2 in
      let q : t.1 ≡ u.1 = children-same h (tree-same h) lo hi hi' t.1 u.1 e f a.3 b.3 r s in
      λ i. (top i, q i)

  -- ---- trees of any height

  tall-same : (lo hi h g : ℕ) (t : Tree h) (u : Tree g) → top_of h t ≡ top_of g u → Holds nodes h t → Holds nodes g u
      → Bounded h lo hi t → Bounded g lo hi u → ◌≡◌ {A = Tall} (h, t) (g, u)
  tall-same lo hi h g t u top a b r s =
      let high : height_at nodes (h + g) (top_of h t) ≡ h = height-found nodes h (h + g) lo hi t (omega arith) a r in
      let tall : height_at nodes (h + g) (top_of g u) ≡ g = height-found nodes g (h + g) lo hi u (omega arith) b s in
      subst (λ (g : ℕ). (u : Tree g) → top_of h t ≡ top_of g u → Holds nodes g u → Bounded g lo hi u → ◌≡◌ {A = Tall} (h, t) (g, u))
      (sym high ∙ rw top tall) (λ u top b s. ap (λ (t : Tree h). (h, t)) (tree-same h lo hi hi t u top a b r s)) u top b s

  -- ---- layers

  -- what entries with the same cell or the same link have is the same
  abbrev SameValue : ℕ → Type 0
  SameValue l =
      (v w : Value l) → ref_of l v ≡ ref_of l w → HeldBy nodes l v → HeldBy nodes l w → InEdgesBy l v → InEdgesBy l w → v ≡ w

  module _ (l : ℕ) (same : SameValue l) where
    abbrev Helds : List (Key × Value l) → Type 0
    Helds es = All (λ e. HeldBy nodes l e.1) es

    abbrev Edged : List (Key × Value l) → Type 0
    Edged es = All (λ e. InEdgesBy l e.1) es

    values_same : (es fs : List (Key × Value l)) → as_refs l es ≡ as_refs l fs → Helds es → Helds fs → Edged es → Edged fs → es ≡ fs
    values_same [] [] q a[] a[] a[] a[] = refl
    values_same [] (f ∷ fs) q hs gs rs ss = let z : ◌≡◌ {A = ℕ} 0 1 = cc in absurd (omega arith)
    values_same (e ∷ es) [] q hs gs rs ss = let z : ◌≡◌ {A = ℕ} 0 1 = cc in absurd (omega arith)
    values_same (e ∷ es) (f ∷ fs) q (a a∷ hs) (b a∷ gs) (r a∷ rs) (s a∷ ss) =
        let first : ◌≡◌ {A = Key × Ref} (e.0, ref_of l e.1) (f.0, ref_of l f.1) = cc in
        let k : e.0 ≡ f.0 = ap (λ (x : Key × Ref). x.0) first in
        let v : e.1 ≡ f.1 = same e.1 f.1 (ap (λ (x : Key × Ref). x.1) first) a b r s in
        let later : es ≡ fs = values_same es fs (cc) hs gs rs ss in
        λ i. (k i, v i) ∷ later i

    layer-same : (v w : Layer l) → root_of v ≡ root_of w → Held nodes l v → Held nodes l w → InEdges l v → InEdges l w → v ≡ w
    layer-same v w root a b r s =
        let p : v.0 ≡ w.0 =
        tall-same leftmost rightmost v.0.0 w.0.0 v.0.1 w.0.1 root a.0 b.0 r.0 s.0 in
        let e : as_refs l v.1 ≡ as_refs l w.1 = sym a.1 ∙ ap (λ (t : Tall). entries_of t.0 t.1) p ∙ b.1 in
        let q : v.1 ≡ w.1 = values_same v.1 w.1 e a.2 b.2 r.1 s.1 in
        λ i. (p i, q i)

  value_same : (l : ℕ) → SameValue l
  value_same zero v w e a b r s = cc
  value_same (suc l) (inl v) (inl w) e a b r s = ap inl (cc)
  value_same (suc l) (inl v) (inr w) e a b r s = let z : ◌≡◌ {A = ℕ} 0 1 = cc in absurd (omega arith)
  value_same (suc l) (inr v) (inl w) e a b r s = let z : ◌≡◌ {A = ℕ} 0 1 = cc in absurd (omega arith)
  value_same (suc l) (inr v) (inr w) e a b r s = ap inr (layer-same l (value_same l) v w (cc) a b r s)

-- the tree that memory has
pub forest-one : (m : Memory) (v w : Layers) → Forest m v → Forest m w → v ≡ w
forest-one m v w s t =
    let root = sym s.rooted ∙ t.rooted in
    layer-same m.nodes 31 (value_same m.nodes 31) v w root s.held t.held s.in-edges t.in-edges

-- the tree that memory is
pub tree-one : (m : Memory) (v w : Layers) → IsTree m v → IsTree m w → v ≡ w
tree-one m v w s t = forest-one m v w s.forest t.forest
