-- The put on memory does what the put into the tree does, and touches nothing else. Assumes nothing.
use mathlib.Core.Bool.{Bool, true, false, cond}
use mathlib.Core.List.{List, [], ◌∷◌, ◌++◌, map, map-append}
use mathlib.Core.Option.{Option}
use mathlib.Core.Path.{◌≡◌, refl, sym, ap, ◌∙◌, subst, ap₂}
use Prim.Native.Nat.{ℕ, ◌≤◌, ◌<◌, zero, suc, ◌+◌}
use native.Mathlib.Omega.{arith}
use lib.Dec.{leb, ltb}
use lib.ListN.{get_or, length, set, take, drop, length-map, length-set, take-append-drop, length-drop}
use lib.Seq.{get_or-set_same, get_or-set_other, drop-drop}
use Rattle.order.specs.Lists.{total}
use Rattle.order.specs.Map.{All, a[], ◌a∷◌, alter}
use Rattle.order.proofs.Lists.{total-append, total-plus}
use Rattle.order.proofs.Map.{all_append, all-zip, all_split}
use Rattle.trees.specs.Nodes.{IkeyClass, layer_order, Node, free, leaf, NodeList, node_in, one_at, InUse, pair_up, children_of}
use Rattle.trees.specs.FreeNumbers.{free_numbers, times_in, lowest_free}
use Rattle.trees.specs.Tree.{numbered, LowsAgree, low_of_children, TreeOver, internode_of, tree_root, tree_reaches, HoldsTree}
use Rattle.trees.specs.TreePut.{store_or_split, through_child, of_child, low_of_entries, tree_put, split_nodes}
use Rattle.trees.specs.PutInMemory.{write_or_split, memory_put}
use Rattle.trees.proofs.Nodes.{cond_ind, cond-ind₃, one_at-same, one_at-other}
use Rattle.trees.proofs.FreeNumbers.{free-kept, in-use-inside, lowest-taken}

-- ---- what one step does, of the tree's side `a` and the memory's side `b`

module _ {W C : Type 0} (H : NodeList W → C → Type 0) (N : C → ℕ → ℕ) (rt : C → ℕ) where
  -- how often children side by side reach node j
  abbrev pub all_reach : List (ℕ × C) → ℕ → ℕ
  all_reach ps j = total (λ (p : ℕ × C). N p.1 j) ps

  -- The put on memory, b, keeps step with the put into the tree, a: the same low ikeys and numbers, the same free numbers left; memory
  -- has the trees; `cost` numbers are spent, the lowest; a node that was neither reached, by n, nor free is as it was; and each number
  -- is reached or free as often as before.
  pub record InStep (cost : ℕ) (n : ℕ → ℕ) (fs : List ℕ) (m : NodeList W) (a : List (ℕ × C) × List ℕ)
      (b : List (ℕ × ℕ) × NodeList W) : Type 0 where
    pub nums : b.0 ≡ map (numbered rt) a.0
    pub left : free_numbers 0 b.1 ≡ a.1
    pub holds : All (λ p. H b.1 p.1) a.0
    pub same : (j : ℕ) → n j ≡ 0 → times_in fs j ≡ 0 → node_in b.1 j ≡ node_in m j
    pub keep : (j : ℕ) → all_reach a.0 j + times_in a.1 j ≡ n j + times_in fs j
    pub spent : a.1 ≡ drop cost fs
    pub size : length b.1 ≡ length m

  -- memory that agrees where a tree's nodes are has the tree
  abbrev Framed : Type 0
  Framed = (m m' : NodeList W) (t : C) → ((j : ℕ) → 0 < N t j → node_in m' j ≡ node_in m j) → H m t → H m' t

  pub all-framed : Framed → (m m' : NodeList W) {ps : List (ℕ × C)} → ((j : ℕ) → 0 < all_reach ps j → node_in m' j ≡ node_in m j)
      → All (λ p. H m p.1) ps → All (λ p. H m' p.1) ps
  all-framed fr m m' h a[] = a[]
  all-framed fr m m' h (p a∷ ps) = fr m m' _ (λ j g. h j (omega arith)) p a∷ all-framed fr m m' (λ j g. h j (omega arith)) ps

  module _ (fr : Framed) (cost : ℕ × C → ℕ) (x : ℕ) (goT : ℕ × C → List ℕ → List (ℕ × C) × List ℕ)
      (goM : ℕ × ℕ → NodeList W → List (ℕ × ℕ) × NodeList W) (fs : List ℕ) (m : NodeList W)
      (fe : free_numbers 0 m ≡ fs) (Q : ℕ × C → Type 0)
      (ok : (p : ℕ × C) → Q p → H m p.1 → ((j : ℕ) → N p.1 j + times_in fs j ≤ 1) → cost p ≤ length fs
      → InStep (cost p) (N p.1) fs m (goT p fs) (goM (numbered rt p) m)) where
    here : (p : ℕ × C) (ps : List (ℕ × C)) → Q p → ((j : ℕ) → all_reach (p ∷ ps) j + times_in fs j ≤ 1) → All (λ p. H m p.1) (p ∷ ps)
        → cost p ≤ length fs
        → InStep (cost p) (all_reach (p ∷ ps)) fs m ((goT p fs).0 ++ ps, (goT p fs).1)
        ((goM (numbered rt p) m).0 ++ map (numbered rt) ps, (goM (numbered rt p) m).1)
    here p ps q u (h a∷ hs) le =
        let D = ok p q h (λ j. omega (arith, u j)) le in
        record {
          nums = ap (◌++ map (numbered rt) ps) D.nums ∙ sym (map-append (numbered rt) (goT p fs).0 ps);
          left = D.left;
          holds = all_append D.holds (all-framed fr m _ (λ j g. D.same j (omega (arith, u j)) (omega (arith, u j))) hs);
          same = λ j a b. D.same j (omega arith) b;
          keep = λ j. omega (arith, D.keep j, total-append (λ (p : ℕ × C). N p.1 j) (goT p fs).0 ps);
          spent = D.spent;
          size = D.size;
        }

    pub through_child-in-step : (ps : List (ℕ × C)) → All Q ps → ((j : ℕ) → all_reach ps j + times_in fs j ≤ 1) → All (λ p. H m p.1) ps
        → of_child 0 cost x ps ≤ length fs
        → InStep (of_child 0 cost x ps) (all_reach ps) fs m (through_child goT x ps fs) (through_child goM x (map (numbered rt) ps) m)
    through_child-in-step [] qs u hs le = record {
      nums = refl;
      left = fe;
      holds = a[];
      same = λ j a b. refl;
      keep = λ j. refl;
      spent = refl;
      size = refl;
    }
    through_child-in-step (p ∷ []) (y a∷ ys) u hs le = here p [] y u hs le
    through_child-in-step (p ∷ q ∷ qs) (y a∷ ys) u (h a∷ hs) le =
        cond-ind₃ (λ c a b. c ≤ length fs → InStep c (all_reach (p ∷ q ∷ qs)) fs m a b) (ltb x q.0)
        (λ t e. here p (q ∷ qs) y u (h a∷ hs) e)
        (λ t e. let D = through_child-in-step (q ∷ qs) ys (λ j. omega (arith, u j)) hs e in record {
          nums = ap (numbered rt p ∷◌) D.nums;
          left = D.left;
          holds = fr m _ p.1 (λ j g. D.same j (omega (arith, u j)) (omega (arith, u j))) h a∷ D.holds;
          same = λ j a b. D.same j (omega arith) b;
          keep = λ j. omega (arith, D.keep j);
          spent = D.spent;
          size = D.size;
        }) le

module _ {W X : Type 0} (enc : List X → Node W) (used : (l : List X) → InUse (enc l)) (low : List X → ℕ) (room c lo n : ℕ) (xs : List X)
    (m : NodeList W) (un : InUse (node_in m n)) where
  -- one node written, or two, in step: b is whether there is room
  abbrev OneInStep : (fs : List ℕ) → Bool → Type 0
  OneInStep fs b = InStep (λ m t. node_in m t.0 ≡ enc t.1) (λ (t : ℕ × List X) j. one_at t.0 j) (λ t. t.0) (cond b 0 1)
      (one_at n) fs m
      (cond b ((lo, (n, xs)) ∷ [], fs) ((lo, (n, take c xs)) ∷ (low (drop c xs), (get_or fs 0 0, drop c xs)) ∷ [], drop 1 fs))
      (cond b ((lo, n) ∷ [], set m n (enc xs)) (
        (lo, n) ∷ (low (drop c xs), lowest_free m) ∷ [],
        set (set m n (enc (take c xs))) (lowest_free m) (enc (drop c xs)),
      ))

  write-one : (fs : List ℕ) → free_numbers 0 m ≡ fs → OneInStep fs true
  write-one fs fe = record {
    nums = refl;
    left = free-kept m 0 n (enc xs) un (used xs) ∙ fe;
    holds = get_or-set_same m n (enc xs) free (in-use-inside m n un) a∷ a[];
    same = λ j a b. get_or-set_other m n j (enc xs) free (one_at-other n j a);
    keep = λ j. omega arith;
    spent = refl;
    size = length-set m n (enc xs);
  }

  write_two : (r : ℕ) (fs : List ℕ) → free_numbers 0 m ≡ r ∷ fs → ((j : ℕ) → one_at n j + times_in (r ∷ fs) j ≤ 1) → OneInStep (r ∷ fs) false
  write_two r fs fe u =
      let A = enc (take c xs) in
      let B = enc (drop c xs) in
      let m₁ = set m n A in
      let (r<, left) = lowest-taken m₁ r fs B (used (drop c xs)) (free-kept m 0 n A un (used (take c xs)) ∙ fe) in
      rw fe (record {
        nums = refl;
        left = left;
        holds = (get_or-set_other m₁ r n B free (one_at-other r n (omega (arith, u n, one_at-same n)))
            ∙ get_or-set_same m n A free (in-use-inside m n un))
            a∷ get_or-set_same m₁ r B free r< a∷ a[];
        same = λ j a b. get_or-set_other m₁ r j B free (one_at-other r j (omega arith)) ∙ get_or-set_other m n j A free (one_at-other n j a);
        keep = λ j. omega arith;
        spent = refl;
        size = length-set m₁ r B ∙ length-set m n A;
      })

  pub write_or_split-in-step : (fs : List ℕ) → free_numbers 0 m ≡ fs → ((j : ℕ) → one_at n j + times_in fs j ≤ 1)
      → cond (leb (length xs) room) 0 1 ≤ length fs → OneInStep fs (leb (length xs) room)
  write_or_split-in-step fs fe u h = go (leb (length xs) room) fs fe u h
    where
      go : (b : Bool) (fs : List ℕ) → free_numbers 0 m ≡ fs → ((j : ℕ) → one_at n j + times_in fs j ≤ 1) → cond b 0 1 ≤ length fs
          → OneInStep fs b
      go true fs fe u h = write-one fs fe
      go false [] fe u h = absurd (omega arith)
      go false (r ∷ fs) fe u h = write_two r fs fe u

-- ---- a write of the children's numbers is one of the children

take-map : {A B : Type 0} (f : A → B) (c : ℕ) (l : List A) → take c (map f l) ≡ map f (take c l)
take-map f zero l = refl
take-map f (suc c) [] = refl
take-map f (suc c) (x ∷ l) = ap (f x ∷◌) (take-map f c l)

drop-map : {A B : Type 0} (f : A → B) (c : ℕ) (l : List A) → drop c (map f l) ≡ map f (drop c l)
drop-map f zero l = refl
drop-map f (suc c) [] = refl
drop-map f (suc c) (x ∷ l) = drop-map f c l

module _ {C : Type 0} (rt : C → ℕ) where
  low-map : (l : List (ℕ × C)) → low_of_children (map (numbered rt) l) ≡ low_of_children l
  low-map [] = refl
  low-map (p ∷ l) = refl

  write_or_split-map : {W : Type 0} (room c lo n : ℕ) (ps : List (ℕ × C)) (m : NodeList W)
      → write_or_split internode_of low_of_children room c lo n (map (numbered rt) ps) m
      ≡ write_or_split (λ (qs : List (ℕ × C)). internode_of (map (numbered rt) qs)) low_of_children room c lo n ps m
  write_or_split-map room c lo n ps m = rw (
    length-map ps (numbered rt),
    take-map (numbered rt) c ps,
    drop-map (numbered rt) c ps,
    low-map (drop c ps),
  )

  pair_up-map : (ps : List (ℕ × C)) → pair_up (map (λ p. p.0) (map (numbered rt) ps)) (map (λ p. p.1) (map (numbered rt) ps))
      ≡ map (numbered rt) ps
  pair_up-map [] = refl
  pair_up-map (p ∷ ps) = ap (numbered rt p ∷◌) (pair_up-map ps)

-- ---- what a store does with what holds of the elements, and with their sum

module _ {X : Type 0} (low : List X → ℕ) (room c lo n : ℕ) (xs : List X) (fs : List ℕ) where
  store_or_split-all : {P : X → Type 0} → All P xs → All (λ (p : ℕ × (ℕ × List X)). All P p.1.1) (store_or_split low room c lo n xs fs).0
  store_or_split-all {P} a = cond_ind (λ (r : List (ℕ × (ℕ × List X)) × List ℕ). All (λ p. All P p.1.1) r.0) (leb (length xs) room)
      (λ t. a a∷ a[]) (λ t. let (l, r) = all_split (take c xs) (drop c xs) (subst (All P) (sym (take-append-drop c xs)) a) in l a∷ r a∷ a[])

  store_or_split-total : (F : X → ℕ) → total (λ (p : ℕ × (ℕ × List X)). total F p.1.1) (store_or_split low room c lo n xs fs).0
      ≡ total F xs
  store_or_split-total F = cond_ind (λ (r : List (ℕ × (ℕ × List X)) × List ℕ). total (λ p. total F p.1.1) r.0 ≡ total F xs)
      (leb (length xs) room)
      (λ t. omega arith) (λ t. omega (arith, total-append F (take c xs) (drop c xs), ap (total F) (take-append-drop c xs)))

-- ---- an internode's step from its children's

module _ {W C : Type 0} (H : NodeList W → C → Type 0) (N : C → ℕ → ℕ) (rt : C → ℕ)
    (fr : (m m' : NodeList W) (t : C) → ((j : ℕ) → 0 < N t j → node_in m' j ≡ node_in m j) → H m t → H m' t) where
  -- memory has an internode, and its children
  abbrev pub HoldsInternode : NodeList W → ℕ × List (ℕ × C) → Type 0
  HoldsInternode m t = (node_in m t.0 ≡ internode_of (map (numbered rt) t.1)) × All (λ p. H m p.1) t.1

  -- how often an internode and its children reach node j
  abbrev pub internode_reaches : ℕ × List (ℕ × C) → ℕ → ℕ
  internode_reaches t j = one_at t.0 j + total (λ (p : ℕ × C). N p.1 j) t.1

  pub internode-in-step : (room c lo n cost : ℕ) (ps : List (ℕ × C)) (fs : List ℕ) (m : NodeList W) (a : List (ℕ × C) × List ℕ)
      (b : List (ℕ × ℕ) × NodeList W)
      → InUse (node_in m n) → ((j : ℕ) → internode_reaches (n, ps) j + times_in fs j ≤ 1)
      → cost + cond (leb (length a.0) room) 0 1 ≤ length fs → InStep H N rt cost (λ j. total (λ (p : ℕ × C). N p.1 j) ps) fs m a b
      → InStep HoldsInternode internode_reaches (λ t. t.0) (cost + cond (leb (length a.0) room) 0 1) (internode_reaches (n, ps)) fs m
      (store_or_split low_of_children room c lo n a.0 a.1) (write_or_split internode_of low_of_children room c lo n b.0 b.1)
  internode-in-step room c lo n cost ps fs m a b un u le D =
      let st : node_in b.1 n ≡ node_in m n = D.same n (omega (arith, u n, one_at-same n)) (omega (arith, u n, one_at-same n)) in
      let S = write_or_split-in-step (λ (qs : List (ℕ × C)). internode_of (map (numbered rt) qs)) (λ l. tt) low_of_children room c lo n a.0
      b.1 (rw st un) a.1 D.left
      (λ j. omega (arith, u j, D.keep j)) (omega (arith, ap length D.spent, length-drop cost fs)) in
      rw (D.nums, write_or_split-map rt room c lo n a.0 b.1) (record {
        nums = S.nums;
        left = S.left;
        holds = all-zip (λ p x y. (x, y)) S.holds
            (store_or_split-all low_of_children room c lo n a.0 a.1
            (all-framed H N rt fr b.1 _ (λ j g. S.same j (omega (arith, u j, D.keep j)) (omega (arith, u j, D.keep j))) D.holds));
        same = λ j x y. S.same j (omega arith) (omega (arith, D.keep j)) ∙ D.same j (omega arith) y;
        keep = λ j. omega (
          arith,
          S.keep j,
          D.keep j,
          store_or_split-total low_of_children room c lo n a.0 a.1 (λ (p : ℕ × C). N p.1 j),
          total-plus (λ (p : ℕ × (ℕ × List (ℕ × C))). one_at p.1.0 j) (λ p. total (λ (q : ℕ × C). N q.1 j) p.1.1)
              (store_or_split low_of_children room c lo n a.0 a.1).0,
        );
        spent = S.spent ∙ ap (drop (cond (leb (length a.0) room) 0 1)) D.spent
            ∙ drop-drop (cond (leb (length a.0) room) 0 1) cost fs;
        size = S.size ∙ D.size;
      })

module _ (W : Type 0) (top mid : ℕ) (cut : List (IkeyClass × W) → ℕ) where
  pub children-of-internode : (lo : ℕ) (d : ℕ) (ps : List (ℕ × TreeOver W d)) → 0 < length ps → low_of_children ps ≡ lo
      → children_of {W = W} lo (internode_of (map (numbered (tree_root W d)) ps)) ≡ map (numbered (tree_root W d)) ps
  children-of-internode lo d [] h e = absurd (omega arith)
  children-of-internode lo d (p ∷ ps) h e = ap₂ (λ (l : ℕ) (r : List (ℕ × ℕ)). (l, tree_root W d p.1) ∷ r) (sym e)
      (pair_up-map (tree_root W d) ps)

  pub tree-framed : (d : ℕ) (m m' : NodeList W) (t : TreeOver W d) → ((j : ℕ) → 0 < tree_reaches W d t j → node_in m' j ≡ node_in m j)
      → HoldsTree W m d t → HoldsTree W m' d t
  tree-framed zero m m' t h g = h t.0 (omega (arith, one_at-same t.0)) ∙ g
  tree-framed (suc d) m m' t h g = (
    h t.0 (omega (arith, one_at-same t.0)) ∙ g.0,
    all-framed (λ m. HoldsTree W m d) (tree_reaches W d) (tree_root W d) (tree-framed d) m m' (λ j i. h j (omega arith)) g.1,
  )

  -- the put on memory keeps step with the put into the tree of height d
  abbrev pub TreeInStep : (d : ℕ) → ℕ → (ℕ → ℕ) → List ℕ → NodeList W → List (ℕ × TreeOver W d) × List ℕ → List (ℕ × ℕ) × NodeList W
      → Type 0
  TreeInStep d = InStep (λ m. HoldsTree W m d) (tree_reaches W d) (tree_root W d)

  pub put-in-step : (k : IkeyClass) (f : Option W → Option W) (fs : List ℕ) (m : NodeList W) → free_numbers 0 m ≡ fs
      → (d : ℕ) (p : ℕ × TreeOver W d) → split_nodes W top mid cut d k f p fs ≤ length fs → LowsAgree W d p
      → HoldsTree W m d p.1 → ((j : ℕ) → tree_reaches W d p.1 j + times_in fs j ≤ 1)
      → TreeInStep d (split_nodes W top mid cut d k f p fs) (tree_reaches W d p.1) fs m (tree_put W top mid cut d k f p fs)
      (memory_put W top mid cut d k f (numbered (tree_root W d) p) m)
  put-in-step k f fs m fe zero p le lo h u =
      rw h (let es = alter layer_order k f p.1.1 in write_or_split-in-step leaf (λ l. tt) low_of_entries top (cut es) p.0 p.1.0 es m
      (rw h tt) fs fe u le)
  put-in-step k f fs m fe (suc d) p le lo h u =
      rw (h.0, children-of-internode p.0 d p.1.1 lo.0 lo.1)
      (internode-in-step (λ m. HoldsTree W m d) (tree_reaches W d) (tree_root W d) (tree-framed d) (suc top) mid p.0 p.1.0
      (of_child 0 (λ q. split_nodes W top mid cut d k f q fs) k.0 p.1.1) p.1.1 fs m _ _ (rw h.0 tt) u le
      (through_child-in-step (λ m. HoldsTree W m d) (tree_reaches W d) (tree_root W d) (tree-framed d)
      (λ q. split_nodes W top mid cut d k f q fs) k.0 (tree_put W top mid cut d k f) (memory_put W top mid cut d k f) fs m fe
      (LowsAgree W d)
      (λ q l g v c. put-in-step k f fs m fe d q c l g v) p.1.1 lo.2 (λ j. omega (arith, u j)) h.1 (omega arith)))
