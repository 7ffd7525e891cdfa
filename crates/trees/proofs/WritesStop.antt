-- A node whose child stays one need not be written: the put that stops there leaves the same memory. Assumes nothing.
use mathlib.Core.Bool.{Bool, true, false, cond}
use mathlib.Core.List.{List, [], ◌∷◌, ◌++◌, map}
use mathlib.Core.Option.{Option}
use mathlib.Core.Path.{◌≡◌, refl, sym, ap, ◌∙◌, subst}
use Prim.Native.Nat.{ℕ, ◌≤◌, zero, suc, ◌+◌}
use native.Mathlib.Omega.{arith}
use lib.Dec.{T, leb, ltb, leb→le}
use lib.ListN.{length, set, length-map, length-append}
use lib.Seq.{set-get_or}
use Rattle.order.specs.Lists.{total}
use Rattle.order.specs.Map.{All, a[], ◌a∷◌, alter}
use Rattle.trees.specs.Nodes.{IkeyClass, layer_order, Node, free, leaf, NodeList, node_in, leaf_entries, children_of}
use Rattle.trees.specs.FreeNumbers.{free_numbers, times_in}
use Rattle.trees.specs.Tree.{numbered, LowsAgree, Abutting, last_child, and_next, low_of_children, TreeOver, internode_of, tree_root}
use Rattle.trees.specs.Tree.{tree_reaches, HoldsTree, WellFormed}
use Rattle.trees.specs.TreePut.{before_next, through_child, of_child, low_of_entries, tree_put, split_nodes}
use Rattle.trees.specs.PutInMemory.{write_or_split, memory_put, stopping_put}
use Rattle.trees.proofs.Nodes.{cond_ind, one_at-same}
use Rattle.trees.proofs.PutInMemory.{through_child-in-step, children-of-internode, tree-framed, put-in-step}
use Rattle.trees.proofs.NeededInLayer.{leb-is}

-- an answer is one or two, and one is the node itself
abbrev OneIsItself : {S : Type 0} → (ℕ × ℕ → S → List (ℕ × ℕ) × S) → S → Type 0
OneIsItself go m = (q : ℕ × ℕ) → (1 ≤ length (go q m).0) × (length (go q m).0 ≤ 1 → (go q m).0 ≡ q ∷ [])

write_or_split-same : {W X : Type 0} (enc : List X → Node W) (low : List X → ℕ) (room c lo n : ℕ) (xs : List X) (m : NodeList W)
    → let r = (write_or_split enc low room c lo n xs m).0 in (1 ≤ length r) × (length r ≤ 1 → r ≡ (lo, n) ∷ [])
write_or_split-same enc low room c lo n xs m = cond_ind
    (λ (r : List (ℕ × ℕ) × NodeList _). (1 ≤ length r.0) × (length r.0 ≤ 1 → r.0 ≡ (lo, n) ∷ [])) (leb (length xs) room)
    (λ t. (omega arith, λ h. refl)) (λ t. (omega arith, λ h. absurd (omega arith)))

through_child-same : {S : Type 0} (go : ℕ × ℕ → S → List (ℕ × ℕ) × S) (x : ℕ) (m : S) → OneIsItself go m → (qs : List (ℕ × ℕ))
    → length (through_child go x qs m).0 ≤ length qs → (through_child go x qs m).0 ≡ qs
through_child-same {S} go x m s [] h = refl
through_child-same {S} go x m s (q ∷ qs) h = pickd (before_next x qs) h (through_child-same go x m s qs)
  where
    pickd : (b : Bool)
        → length
        (cond {A = List (ℕ × ℕ) × S} b ((go q m).0 ++ qs, (go q m).1)
        (q ∷ (through_child go x qs m).0, (through_child go x qs m).1)).0 ≤ suc (length qs)
        → (length (through_child go x qs m).0 ≤ length qs → (through_child go x qs m).0 ≡ qs)
        → (cond {A = List (ℕ × ℕ) × S} b ((go q m).0 ++ qs, (go q m).1)
        (q ∷ (through_child go x qs m).0, (through_child go x qs m).1)).0 ≡ q ∷ qs
    pickd true h ih = ap (◌++ qs) ((s q).1 (omega (arith, length-append (go q m).0 qs)))
    pickd false h ih = ap (q ∷◌) (ih (omega arith))

through_child-equal : {C S : Type 0} (rt : C → ℕ) (go go' : ℕ × ℕ → S → List (ℕ × ℕ) × S) (x : ℕ) (m : S) (cost : ℕ × C → ℕ)
    (n : ℕ) {ps : List (ℕ × C)}
    → All (λ p. cost p ≤ n → go (numbered rt p) m ≡ go' (numbered rt p) m) ps → of_child 0 cost x ps ≤ n
    → through_child go x (map (numbered rt) ps) m ≡ through_child go' x (map (numbered rt) ps) m
through_child-equal rt go go' x m cost n a[] h = refl
through_child-equal rt go go' x m cost n (◌a∷◌ {x = p} q a[]) h = ap (λ (r : List (ℕ × ℕ) × _). (r.0 ++ [], r.1)) (q h)
through_child-equal {C} {S} rt go go' x m cost n (◌a∷◌ {x = p} q (◌a∷◌ {x = p'} {xs = ps} q' qs)) h =
    pickd (ltb x p'.0) h (through_child-equal rt go go' x m cost n (q' a∷ qs))
  where
    rest : List (ℕ × ℕ)
    rest = map (numbered rt) (p' ∷ ps)

    ans : (ℕ × ℕ → S → List (ℕ × ℕ) × S) → Bool → List (ℕ × ℕ) × S
    ans go b = cond b ((go (numbered rt p) m).0 ++ rest, (go (numbered rt p) m).1)
        (numbered rt p ∷ (through_child go x rest m).0, (through_child go x rest m).1)

    pickd : (b : Bool) → cond b (cost p) (of_child 0 cost x (p' ∷ ps)) ≤ n
        → (of_child 0 cost x (p' ∷ ps) ≤ n → through_child go x rest m ≡ through_child go' x rest m) → ans go b ≡ ans go' b
    pickd true h ih = ap (λ (r : List (ℕ × ℕ) × S). (r.0 ++ rest, r.1)) (q h)
    pickd false h ih = ap (λ (r : List (ℕ × ℕ) × S). (numbered rt p ∷ r.0, r.1)) (ih h)

module _ (W : Type 0) (top mid : ℕ) (cut : List (IkeyClass × W) → ℕ) (k : IkeyClass) (f : Option W → Option W) (fs : List ℕ)
    (m : NodeList W) (fe : free_numbers 0 m ≡ fs) where
  pub memory_put-same : (d : ℕ) → OneIsItself (memory_put W top mid cut d k f) m
  memory_put-same zero q =
      let es = alter layer_order k f (leaf_entries (node_in m q.1)) in write_or_split-same leaf low_of_entries top (cut es) q.0 q.1 es m
  memory_put-same (suc d) q =
      let r = through_child (memory_put W top mid cut d k f) k.0 (children_of q.0 (node_in m q.1)) m in
      write_or_split-same internode_of low_of_children (suc top) mid q.0 q.1 r.0 r.1

  -- of the node itself, from its children's list K
  node-stopping-same : (lo n : ℕ) (K : List (ℕ × ℕ)) (r : List (ℕ × ℕ) × NodeList W) → (length r.0 ≤ length K → r.0 ≡ K)
      → node_in r.1 n ≡ internode_of K → length K ≤ suc top
      → cond (leb (length r.0) (length K)) ((lo, n) ∷ [], r.1)
      (write_or_split internode_of low_of_children (suc top) mid lo n r.0 r.1)
      ≡ write_or_split internode_of low_of_children (suc top) mid lo n r.0 r.1
  node-stopping-same lo n K r e g h = go (leb (length r.0) (length K)) (λ t. leb→le _ _ t)
    where
      pairs : {a b : NodeList W} → a ≡ b → ◌≡◌ {A = List (ℕ × ℕ) × NodeList W} ((lo, n) ∷ [], a) ((lo, n) ∷ [], b)
      pairs q = λ i. ((lo, n) ∷ [], q i)

      one : length r.0 ≤ length K → ◌≡◌ {A = List (ℕ × ℕ) × NodeList W} ((lo, n) ∷ [], r.1)
          (write_or_split internode_of low_of_children (suc top) mid lo n r.0 r.1)
      one t = rw (leb-is (length r.0) (suc top) (omega arith))
          (pairs (sym (ap (λ (x : Node W). set r.1 n x) (ap internode_of (e t) ∙ sym g) ∙ set-get_or r.1 n free)))

      go : (b : Bool) → (T b → length r.0 ≤ length K)
          → cond b ((lo, n) ∷ [], r.1) (write_or_split internode_of low_of_children (suc top) mid lo n r.0 r.1)
          ≡ write_or_split internode_of low_of_children (suc top) mid lo n r.0 r.1
      go true f = one (f tt)
      go false f = refl

  children-stopping-same : (d : ℕ) → ((p : ℕ × TreeOver W d) (lo hi : ℕ) → split_nodes W top mid cut d k f p fs ≤ length fs
      → WellFormed W top d lo hi p.1 → LowsAgree W d p → HoldsTree W m d p.1
      → ((j : ℕ) → tree_reaches W d p.1 j + times_in fs j ≤ 1)
      → stopping_put W top mid cut d k f (numbered (tree_root W d) p) m ≡ memory_put W top mid cut d k f (numbered (tree_root W d) p) m)
      → {hi lo : ℕ} {ps : List (ℕ × TreeOver W d)} → Abutting (WellFormed W top d) hi lo ps → All (LowsAgree W d) ps
      → All (λ p. HoldsTree W m d p.1) ps → ((j : ℕ) → total (λ p. tree_reaches W d p.1 j) ps + times_in fs j ≤ 1)
      → All (λ p. split_nodes W top mid cut d k f p fs ≤ length fs
      → stopping_put W top mid cut d k f (numbered (tree_root W d) p) m ≡ memory_put W top mid cut d k f (numbered (tree_root W d) p) m) ps
  children-stopping-same d ih {hi} {lo} (last_child {p = p} e l r) (a a∷ bs) (h a∷ hs) u =
      (λ le. ih p lo hi le r a h (λ j. omega (arith, u j))) a∷ a[]
  children-stopping-same d ih {hi} {lo} (and_next s {p = p} e l r c) (a a∷ bs) (h a∷ hs) u =
      (λ le. ih p lo s le r a h (λ j. omega (arith, u j))) a∷ children-stopping-same d ih c bs hs (λ j. omega (arith, u j))

  pub stopping-same : (d : ℕ) (p : ℕ × TreeOver W d) (lo hi : ℕ) → split_nodes W top mid cut d k f p fs ≤ length fs
      → WellFormed W top d lo hi p.1 → LowsAgree W d p → HoldsTree W m d p.1
      → ((j : ℕ) → tree_reaches W d p.1 j + times_in fs j ≤ 1)
      → stopping_put W top mid cut d k f (numbered (tree_root W d) p) m ≡ memory_put W top mid cut d k f (numbered (tree_root W d) p) m
  stopping-same zero p lo hi le w l h u = refl
  stopping-same (suc d) p lo hi le w l h u =
      let K = map (numbered (tree_root W d)) p.1.1 in
      let n = p.1.0 in
      let ke : children_of p.0 (node_in m n) ≡ K = ap (children_of p.0) h.0
      ∙ children-of-internode W top 0 (λ e. 0) p.0 d p.1.1 l.0 l.1 in
      let D = through_child-in-step (λ m. HoldsTree W m d) (tree_reaches W d) (tree_root W d) (tree-framed W top mid cut d)
      (λ q. split_nodes W top mid cut d k f q fs) k.0 (tree_put W top mid cut d k f) (memory_put W top mid cut d k f) fs m fe
      (LowsAgree W d)
      (λ q l g v c. put-in-step W top mid cut k f fs m fe d q c l g v) p.1.1 l.2 (λ j. omega (arith, u j)) h.1 (omega arith) in
      let e = through_child-equal (tree_root W d) (stopping_put W top mid cut d k f) (memory_put W top mid cut d k f) k.0 m
      (λ q. split_nodes W top mid cut d k f q fs) (length fs)
      (children-stopping-same d (stopping-same d) w.0 l.2 h.1 (λ j. omega (arith, u j))) (omega arith) in
      let r = through_child (memory_put W top mid cut d k f) k.0 K m in
      subst (λ (K : List (ℕ × ℕ)). ◌≡◌ {A = List (ℕ × ℕ) × NodeList W}
      (let r = through_child (stopping_put W top mid cut d k f) k.0 K m in cond (leb (length r.0) (length K)) ((p.0, n) ∷ [], r.1)
      (write_or_split internode_of low_of_children (suc top) mid p.0 n r.0 r.1))
      (let r = through_child (memory_put W top mid cut d k f) k.0 K m in write_or_split internode_of low_of_children (suc top) mid p.0 n
      r.0 r.1)) (sym ke)
      (ap (λ (r : List (ℕ × ℕ) × NodeList W). cond (leb (length r.0) (length K)) ((p.0, n) ∷ [], r.1)
      (write_or_split internode_of low_of_children (suc top) mid p.0 n r.0 r.1)) e
      ∙ node-stopping-same p.0 n K r (through_child-same (memory_put W top mid cut d k f) k.0 m (memory_put-same d) K)
      (D.same n (omega (arith, u n, one_at-same n)) (omega (arith, u n, one_at-same n)) ∙ h.0)
      (omega (arith, length-map p.1.1 (numbered (tree_root W d)), w.1)))
