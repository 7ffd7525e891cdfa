-- A node whose child grew: as it was where the child stayed one, with a child more where it became two. Assumes nothing.
use mathlib.Core.Path.{◌≡◌, refl, sym, ap, ap₂, ◌∙◌, subst}
use mathlib.Core.Bool.{cond}
use mathlib.Core.Logic.{◌≢◌}
use mathlib.Core.List.{List, [], ◌∷◌, ◌++◌, map}
use Prim.Native.Nat.{ℕ, suc, ◌+◌, ◌≤◌, ◌<◌}
use native.Mathlib.Nat.{add-zero}
use native.Mathlib.Omega.{arith}
use lib.Dec.{T, leb}
use lib.ListN.{length, get_or, set, length-append}
use lib.Seq.{set-get_or, append_snoc}
use Rattle.internode.specs.Lists.{rising}
use Rattle.arena.specs.Layout.{node_start, kind_at}
use Rattle.trees.specs.Nodes.{free, node_in, one_at, pair_up, children_of}
use Rattle.trees.specs.FreeNumbers.{free_numbers}
use Rattle.trees.specs.Tree.{low_of_children, internode_of}
use Rattle.trees.specs.PutInMemory.{write_or_split}
use Rattle.trees.specs.Layers.{Pointer}
use Rattle.trees.proofs.NeededInLayer.{leb-is}
use Rattle.model.specs.declared.Grown.{Grown}
use Rattle.model.specs.declared.Grown.TheVariants.{One, Two}
use Rattle.model.specs.Grow.{parent_grown}
use Rattle.growth.proofs.Frames.{Same}
use Rattle.growth.proofs.Memory.{Nodes, View, view-at, internode-of}
use Rattle.growth.proofs.LeafGrown.{Grows, grown_pairs}
use Rattle.growth.proofs.InternodeGrown.{internode-adds}

zip_both : (l : List (ℕ × ℕ)) → pair_up (map (λ (p : ℕ × ℕ). p.0) l) (map (λ (p : ℕ × ℕ). p.1) l) ≡ l
zip_both [] = refl
zip_both (p ∷ l) = ap (p ∷◌) (zip_both l)

-- the children of an internode
pub kids-fork : (lo : ℕ) (K : List (ℕ × ℕ)) → 0 < length K → low_of_children K ≡ lo → children_of {W = Pointer} lo (internode_of K) ≡ K
kids-fork lo [] h e = absurd (omega arith)
kids-fork lo (p ∷ K) h e = ap₂ (λ (l : ℕ) (r : List (ℕ × ℕ)). (l, p.1) ∷ r) (sym e) (zip_both K)

-- nodes with the same words are of the same kind
pub same_kind : (nodes nodes' : List ℕ) (j : ℕ) → Same nodes nodes' j → kind_at nodes' j ≡ kind_at nodes j
same_kind nodes nodes' j s =
    let z : node_start j + 0 ≡ node_start j = add-zero (node_start j) in
    ap (λ (i : ℕ). get_or nodes' i 0) (sym z) ∙ s 0 (omega arith) ∙ ap (λ (i : ℕ). get_or nodes i 0) z

module _ (nodes nodes' : List ℕ) (n : ℕ) (N : Nodes nodes' n) (head : (i : ℕ) → i < 2 → get_or nodes' i 0 ≡ get_or nodes i 0)
    (own : ℕ → ℕ) (kept : (j : ℕ) → own j ≡ 0 → kind_at nodes j ≢ 0 → Same nodes nodes' j) (lo k : ℕ) (h : k < n)
    (A B : List (ℕ × ℕ)) (q : ℕ × ℕ) (here : node_in (View nodes' n) k ≡ internode_of (A ++ q ∷ B)) (few : length (A ++ q ∷ B) ≤ 16)
    (low : low_of_children (A ++ q ∷ B) ≡ lo) where
  -- the child's answer among its neighbours
  abbrev answer : Grown → List (ℕ × ℕ)
  answer g = A ++ (grown_pairs q.0 q.1 g ++ B)

  parent-one : Grows (λ j. one_at k j + own j) nodes n lo k (nodes', One)
      (write_or_split internode_of low_of_children 16 9 lo k (A ++ q ∷ B) (View nodes' n))
  parent-one =
      rw (leb-is (length (A ++ q ∷ B)) 16 few) (record {
        still = N;
        pairs = refl;
        view = sym (ap (set (View nodes' n) k) (sym here) ∙ set-get_or (View nodes' n) k free);
        head = head;
        kept = λ j z u. kept j (omega arith) u;
      })

  pub parent-grown : (g : Grown) → T (rising (map (λ (p : ℕ × ℕ). p.0) (answer g)))
      → cond (leb (length (answer g)) 16) 0 1 ≤ length (free_numbers 0 (View nodes' n))
      → Grows (λ j. one_at k j + own j) nodes n lo k (parent_grown n k (nodes', g))
      (write_or_split internode_of low_of_children 16 9 lo k (answer g) (View nodes' n))
  parent-grown One rise enough = parent-one
  parent-grown (Two ikey child) rise enough =
      let x : ℕ × ℕ = (suc ikey, child) in
      let s : A ++ (q ∷ []) ++ x ∷ B ≡ A ++ q ∷ x ∷ B = append_snoc A q (x ∷ B) in
      let t : A ++ (q ∷ []) ++ B ≡ A ++ q ∷ B = append_snoc A q B in
      let pos : 0 < length (A ++ q ∷ B) = omega (arith, length-append A (q ∷ B)) in
      let ke : children_of lo (node_in (View nodes' n) k) ≡ (A ++ (q ∷ [])) ++ B =
      ap (children_of lo) here ∙ kids-fork lo (A ++ q ∷ B) pos low ∙ sym t in
      let a : length (A ++ (q ∷ [])) ≡ suc (length A) = omega (arith, length-append A (q ∷ [])) in
      let G = internode-adds nodes' n N k h (internode-of nodes' n N k h (sym (view-at nodes' n k h) ∙ here)) lo ikey child (length A)
      (A ++ (q ∷ [])) B ke a
      (subst (λ (xs : List (ℕ × ℕ)). T (rising (map (λ (p : ℕ × ℕ). p.0) xs))) (sym s) rise)
      (subst (λ (xs : List (ℕ × ℕ)). cond (leb (length xs) 16) 0 1 ≤ length (free_numbers 0 (View nodes' n))) (sym s) enough) in
      record {
        still = G.still;
        pairs = G.pairs ∙ ap (λ (xs : List (ℕ × ℕ)). (write_or_split internode_of low_of_children 16 9 lo k xs (View nodes' n)).0) s;
        view = G.view ∙ ap (λ (xs : List (ℕ × ℕ)). (write_or_split internode_of low_of_children 16 9 lo k xs (View nodes' n)).1) s;
        head = λ i l. G.head i l ∙ head i l;
        kept = λ j z u i l. G.kept j (omega arith) (λ y. u (sym (same_kind nodes nodes' j (kept j (omega arith) u)) ∙ y)) i l
            ∙ kept j (omega arith) u i l;
      }
