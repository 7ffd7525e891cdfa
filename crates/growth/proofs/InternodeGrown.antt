-- An internode with a child more is the trees' internode of its children with that one, in one node or in two. Assumes nothing.
use mathlib.Core.Path.{◌≡◌, refl, sym, ap, ap₂, ◌∙◌, subst}
use mathlib.Core.Logic.{⊎_elim}
use mathlib.Core.Bool.{Bool, cond}
use mathlib.Core.List.{List, [], ◌∷◌, ◌++◌, map, map-append, append-nil}
use Prim.Native.Nat.{ℕ, zero, suc, ◌+◌, ◌-◌, ◌≤◌, ◌<◌}
use native.Mathlib.Omega.{arith}
use native.Mathlib.Numerals.{add-one}
use lib.Dec.{T, leb}
use lib.ListN.{length, get_or, set, take, drop, replicate, length-append, length-drop, length-map}
use lib.Seq.{drop-cons, take_at, drop_at, length-take-le}
use borrow.Author.Tests.{le-leb, lt-leb, lt-ltb, le-ltb}
use Rattle.internode_places.specs.declared.Internode as declared
use Rattle.bank.proofs.Tests.{and_right}
use Rattle.internode.specs.Lists.{below, rising, after_last, inserted_at}
use Rattle.internode.specs.Node.{child_place, inserted}
use Rattle.internode.specs.Split.{node_of, cut_at, split_of}
use Rattle.internode.proofs.Rising.{rising-lt, rising-take, rising-drop}
use Rattle.internode.proofs.Places.{last-parts}
use Rattle.internode.proofs.Inserts.{inserted-length, inserted-before, inserted-here, inserted-after}
use Rattle.internode.proofs.Splits.{node-inserted}
use Rattle.internode.proofs.Halves.{node-keys}
use Rattle.leaf.proofs.Lists as lists
use Rattle.arena.specs.Layout.{node_start, kind_at}
use Rattle.arena.specs.Free.{free_nodes}
use Rattle.arena.proofs.Words.{lt-or-ge}
use Rattle.forest.specs.Nodes.{count_at, ikeys_at, children_at, internode_right}
use Rattle.trees.specs.Nodes.{internode, NodeList, node_in, one_at, pair_up, children_of}
use Rattle.trees.specs.FreeNumbers.{free_numbers, lowest_free}
use Rattle.trees.specs.Tree.{low_of_children, internode_of}
use Rattle.trees.specs.PutInMemory.{write_or_split}
use Rattle.trees.specs.Layers.{Pointer}
use Rattle.trees.proofs.Nodes.{one_at-other}
use Rattle.trees.proofs.NeededInLayer.{leb-is, leb-not}
use Rattle.model.specs.declared.Grown.TheVariants.{One, Two}
use Rattle.model.specs.Leaves.{fresh_node}
use Rattle.model.specs.Internodes.{internode_in, internode_put, internode_split, internode_grown}
use Rattle.growth.proofs.Frames.{view-internode}
use Rattle.growth.proofs.Memory.{Nodes, node-fits, View, view-at, frees-view, free_of}
use Rattle.growth.proofs.InternodeWrites.{Internode, internode-means, ikeys-length, children-length, internode-in, internode-put}
use Rattle.growth.proofs.LeafGrown.{Grows}
use Rattle.growth.proofs.Picks.{suc-rising}

-- ---- two lists side by side

zip-nil : (a : List ℕ) → pair_up a [] ≡ []
zip-nil [] = refl
zip-nil (x ∷ a) = refl

zip-take : (c : ℕ) (a b : List ℕ) → take c (pair_up a b) ≡ pair_up (take c a) (take c b)
zip-take zero a b = refl
zip-take (suc c) [] b = refl
zip-take (suc c) (x ∷ a) [] = refl
zip-take (suc c) (x ∷ a) (y ∷ b) = ap ((x, y) ∷◌) (zip-take c a b)

zip-drop : (c : ℕ) (a b : List ℕ) → drop c (pair_up a b) ≡ pair_up (drop c a) (drop c b)
zip-drop zero a b = refl
zip-drop (suc c) [] b = refl
zip-drop (suc c) (x ∷ a) [] = sym (zip-nil (drop c a))
zip-drop (suc c) (x ∷ a) (y ∷ b) = zip-drop c a b

zip-append : (a b c d : List ℕ) → length a ≡ length c → pair_up (a ++ b) (c ++ d) ≡ pair_up a c ++ pair_up b d
zip-append [] b [] d e = refl
zip-append [] b (y ∷ c) d e = absurd (omega arith)
zip-append (x ∷ a) b [] d e = absurd (omega arith)
zip-append (x ∷ a) b (y ∷ c) d e = ap ((x, y) ∷◌) (zip-append a b c d (omega arith))

pub zip_length : (a b : List ℕ) → length a ≡ length b → length (pair_up a b) ≡ length b
zip_length [] [] e = refl
zip_length [] (y ∷ b) e = absurd (omega arith)
zip_length (x ∷ a) [] e = absurd (omega arith)
zip_length (x ∷ a) (y ∷ b) e = ap suc (zip_length a b (omega arith))

zip-lows : (a b : List ℕ) → length a ≡ length b → map (λ (p : ℕ × ℕ). p.0) (pair_up a b) ≡ a
zip-lows [] [] e = refl
zip-lows [] (y ∷ b) e = absurd (omega arith)
zip-lows (x ∷ a) [] e = absurd (omega arith)
zip-lows (x ∷ a) (y ∷ b) e = ap (x ∷◌) (zip-lows a b (omega arith))

zip-numbers : (a b : List ℕ) → length a ≡ length b → map (λ (p : ℕ × ℕ). p.1) (pair_up a b) ≡ b
zip-numbers [] [] e = refl
zip-numbers [] (y ∷ b) e = absurd (omega arith)
zip-numbers (x ∷ a) [] e = absurd (omega arith)
zip-numbers (x ∷ a) (y ∷ b) e = ap (y ∷◌) (zip-numbers a b (omega arith))

-- a node of these children
fork-zip : (lo : ℕ) (a b : List ℕ) → length b ≡ suc (length a) → internode_of {W = Pointer} (pair_up (lo ∷ a) b) ≡ internode a b
fork-zip lo a [] e = absurd (omega arith)
fork-zip lo a (y ∷ b) e = ap₂ internode (zip-lows a b (omega arith)) (ap (y ∷◌) (zip-numbers a b (omega arith)))

low-zip : (lo : ℕ) (a b : List ℕ) → 0 < length b → low_of_children (pair_up (lo ∷ a) b) ≡ lo
low-zip lo a [] h = absurd (omega arith)
low-zip lo a (y ∷ b) h = refl

tail-rising : (k : ℕ) (ks : List ℕ) → T (rising (k ∷ ks)) → T (rising ks)
unfolding rising
tail-rising k ks t = and_right (below k ks) _ t

-- where an ikey that keeps the order belongs
pub place_of : (ks : List ℕ) (p v : ℕ) → p ≤ length ks → T (rising (inserted_at p v ks)) → after_last (λ k. leb k v) ks ≡ p
place_of ks p v l t =
    let n = inserted-length p v ks l in
    let here = inserted-here p v ks l in
    last-parts (λ k. leb k v) ks p l
    (λ k m. let a = rising-lt (inserted_at p v ks) t k p m (omega arith) in let b = inserted-before p v ks l k m in le-leb (get_or ks k 0) v
    (omega arith))
    (λ k m u. let a = rising-lt (inserted_at p v ks) t p (suc k) (omega arith)
    (omega arith) in let b = inserted-after p v ks l k m in lt-leb (get_or ks k 0) v (omega arith))

-- one pair more
pub zip_inserted : (lo : ℕ) (ks cs : List ℕ) (p v w : ℕ) → p ≤ length ks → length cs ≡ length ks + 1 → (A B : List (ℕ × ℕ))
    → pair_up (lo ∷ map suc ks) cs ≡ A ++ B → length A ≡ suc p
    → A ++ (suc v, w) ∷ B ≡ pair_up (lo ∷ map suc (inserted_at p v ks)) (inserted_at (suc p) w cs)
unfolding inserted_at
zip_inserted lo ks cs p v w l e A B q a =
    let L : List ℕ = lo ∷ map suc ks in
    let m : length (map suc ks) ≡ length ks = length-map ks suc in
    let eA : take (suc p) (pair_up L cs) ≡ A = ap (take (suc p)) q ∙ take_at A B (suc p) a in
    let eB : drop (suc p) (pair_up L cs) ≡ B = ap (drop (suc p)) q ∙ drop_at A B (suc p) a in
    let lt : length (take p (map suc ks)) ≡ p = length-take-le p (map suc ks) (omega arith) in
    let ls : map suc (take p ks ++ v ∷ drop p ks) ≡ take p (map suc ks) ++ suc v ∷ drop p (map suc ks) =
    map-append suc (take p ks) (v ∷ drop p ks) ∙ ap₂ (λ (x y : List ℕ). x ++ suc v ∷ y) (lists.map-take suc p ks)
    (lists.map-drop suc p ks) in
    let r : pair_up (lo ∷ map suc (take p ks ++ v ∷ drop p ks)) (take (suc p) cs ++ w ∷ drop (suc p) cs)
    ≡ pair_up (take (suc p) L) (take (suc p) cs) ++ (suc v, w) ∷ pair_up (drop (suc p) L) (drop (suc p) cs) =
    ap (λ (x : List ℕ). pair_up (lo ∷ x) (take (suc p) cs ++ w ∷ drop (suc p) cs)) ls
    ∙ zip-append (lo ∷ take p (map suc ks)) (suc v ∷ drop p (map suc ks)) (take (suc p) cs) (w ∷ drop (suc p) cs)
    (let z : suc (length (take p (map suc ks))) ≡ length (take (suc p) cs) = omega (arith, length-take-le (suc p) cs (omega arith)) in z) in
    ap₂ (λ (x y : List (ℕ × ℕ)). x ++ (suc v, w) ∷ y) (sym eA ∙ zip-take (suc p) L cs) (sym eB ∙ zip-drop (suc p) L cs) ∙ sym r

module _ (nodes : List ℕ) (n k ikey child : ℕ) where
  abbrev X : declared.Internode
  X = internode_in nodes k

  internode-room : count_at nodes k < 15 → internode_grown nodes n k ikey child
      ≡ (internode_put nodes k (inserted X (child_place X ikey) ikey child), One)
  unfolding internode_grown
  internode-room c = rw (le-ltb 15 (count_at nodes k) (omega arith), lt-ltb (count_at nodes k) 15 c)

  internode-full : count_at nodes k ≡ 15
      → internode_grown nodes n k ikey child
      ≡ (
        internode_put (internode_put nodes k (split_of X (child_place X ikey) ikey child).left) (fresh_node nodes n)
            (split_of X (child_place X ikey) ikey child).right,
        Two (split_of X (child_place X ikey) ikey child).up (fresh_node nodes n),
      )
  unfolding internode_grown internode_split
  internode-full c = rw (le-ltb 15 (count_at nodes k) (omega arith), le-ltb (count_at nodes k) 15 (omega arith))

module _ (nodes : List ℕ) (n : ℕ) (N : Nodes nodes n) (k : ℕ) (h : k < n) (t : T (internode_right nodes k)) where
  abbrev ks : List ℕ
  ks = ikeys_at nodes k

  abbrev cs : List ℕ
  cs = children_at nodes k

  fits : node_start k + 47 ≤ length nodes
  fits = node-fits nodes n N k h

  rules : Internode nodes k
  rules = internode-means nodes k t

  ks-length : length ks ≡ count_at nodes k
  ks-length = ikeys-length nodes k fits rules

  cs-length : length cs ≡ length ks + 1
  cs-length = children-length nodes k fits rules ∙ ap (λ (c : ℕ). c + 1) (sym ks-length)

  value : internode_in nodes k ≡ node_of ks cs
  value = internode-in nodes k fits rules

  -- its children, each beside its low ikey
  pub kids-are : (lo : ℕ) → children_of lo (node_in (View nodes n) k) ≡ pair_up (lo ∷ map suc ks) cs
  kids-are lo = ap (children_of lo) (view-at nodes n k h ∙ view-internode nodes k t)

  module _ (p ikey child : ℕ) (l : p ≤ length ks) (rise : T (rising (inserted_at p ikey ks))) where
    abbrev ks' : List ℕ
    ks' = inserted_at p ikey ks

    abbrev cs' : List ℕ
    cs' = inserted_at (suc p) child cs

    ks'-length : length ks' ≡ suc (length ks)
    ks'-length = inserted-length p ikey ks l

    cs'-length : length cs' ≡ suc (length ks')
    cs'-length = inserted-length (suc p) child cs (omega (arith, cs-length))
        ∙ (let z : suc (length cs) ≡ suc (length ks') = omega (arith, cs-length, ks'-length) in z)

    place_is : child_place (internode_in nodes k) ikey ≡ p
    place_is = ap (λ (x : declared.Internode). child_place x ikey) value ∙ ap (after_last (λ x. leb x ikey)) (node-keys ks cs)
        ∙ place_of ks p ikey l rise

    abbrev xs : ℕ → List (ℕ × ℕ)
    xs lo = pair_up (lo ∷ map suc ks') cs'

    suc-length : length (map suc ks') ≡ length ks'
    suc-length = length-map ks' suc

    xs-length : (lo : ℕ) → length (xs lo) ≡ suc (length ks')
    xs-length lo = zip_length (lo ∷ map suc ks') cs' (omega (arith, suc-length, cs'-length)) ∙ cs'-length

    -- ---- with room

    grown-room : (lo : ℕ) → count_at nodes k < 15 → Grows (one_at k) nodes n lo k (internode_grown nodes n k ikey child)
        (write_or_split internode_of low_of_children 16 9 lo k (xs lo) (View nodes n))
    grown-room lo c =
        let z : p + 1 ≡ suc p = add-one p in
        let is : inserted (internode_in nodes k) (child_place (internode_in nodes k) ikey) ikey child ≡ node_of ks' cs' =
        ap₂ (λ (x : declared.Internode) (q : ℕ). inserted x q ikey child) value place_is
        ∙ node-inserted ks cs p ikey child (omega (arith, ks-length)) cs-length l
        ∙ ap (λ (q : ℕ). node_of ks' (inserted_at q child cs)) z in
        let W = internode-put nodes n N k h ks' cs' (omega (arith, ks'-length, ks-length)) (cs'-length ∙ sym (add-one (length ks'))) rise in
        rw (internode-room nodes n k ikey child c, is, leb-is (length (xs lo)) 16 (omega (arith, xs-length lo, ks'-length, ks-length)))
        (record {
          still = W.still;
          pairs = refl;
          view = W.view ∙ ap (set (View nodes n) k) (sym (fork-zip lo (map suc ks') cs' (omega (arith, suc-length, cs'-length))));
          head = W.head;
          kept = λ j z u. W.others j (one_at-other k j z);
        })

    -- ---- without room

    splitting : count_at nodes k ≡ 15 → split_of (internode_in nodes k) (child_place (internode_in nodes k) ikey) ikey child ≡ cut_at 8 ks' cs'
    unfolding split_of
    splitting c =
        let a : 15 - length ks ≡ 0 = omega (arith, ks-length) in
        let b : 16 - length cs ≡ 0 = omega (arith, cs-length, ks-length) in
        let z : p + 1 ≡ suc p = add-one p in
        ap₂ (λ (x : declared.Internode) (q : ℕ). split_of x q ikey child) value place_is
        ∙ ap₂ (λ (ik ch : List ℕ). cut_at 8 (inserted_at p ikey ik) (inserted_at (p + 1) child ch))
        (ap (λ (i : ℕ). ks ++ replicate i 0) a ∙ append-nil ks) (ap (λ (i : ℕ). cs ++ replicate i 0) b ∙ append-nil cs)
        ∙ ap (λ (q : ℕ). cut_at 8 ks' (inserted_at q child cs)) z

    grown-full : (lo : ℕ) → count_at nodes k ≡ 15 → {f : ℕ} {fs : List ℕ} → free_nodes nodes n ≡ f ∷ fs
        → Grows (one_at k) nodes n lo k (internode_grown nodes n k ikey child)
        (write_or_split internode_of low_of_children 16 9 lo k (xs lo) (View nodes n))
    grown-full lo c {f} {fs} fe =
        let fr = free_of nodes n N fe in
        let f-is : fresh_node nodes n ≡ f = ap (λ (l : List ℕ). get_or l 0 0) fe in
        let fresh-is : lowest_free (View nodes n) ≡ f = ap (λ (l : List ℕ). get_or l 0 0) (frees-view nodes n N ∙ fe) in
        let l16 : length ks' ≡ 16 = omega (arith, ks'-length, ks-length) in
        let S = splitting c in
        let lk : length (take 8 ks') ≡ 8 = length-take-le 8 ks' (omega arith) in
        let lc : length (take 9 cs') ≡ 9 = length-take-le 9 cs' (omega (arith, cs'-length)) in
        let rk = length-drop 9 ks' in
        let rc = length-drop 9 cs' in
        let W1 = internode-put nodes n N k h (take 8 ks') (take 9 cs') (omega arith) (omega arith) (rising-take 8 ks' rise) in
        let W2 = internode-put (internode_put nodes k (node_of (take 8 ks') (take 9 cs'))) n W1.still f fr.0 (drop 9 ks') (drop 9 cs')
        (omega arith) (omega (arith, cs'-length)) (rising-drop 9 ks' rise) in
        let L : take 9 (xs lo) ≡ pair_up (lo ∷ map suc (take 8 ks')) (take 9 cs') =
        zip-take 9 (lo ∷ map suc ks') cs' ∙ ap (λ (a : List ℕ). pair_up (lo ∷ a) (take 9 cs')) (sym (lists.map-take suc 8 ks')) in
        let R : drop 9 (xs lo) ≡ pair_up (suc (get_or ks' 8 0) ∷ map suc (drop 9 ks')) (drop 9 cs') =
        zip-drop 9 (lo ∷ map suc ks') cs' ∙ ap (λ (a : List ℕ). pair_up a (drop 9 cs'))
        (sym (lists.map-drop suc 8 ks') ∙ ap (map suc) (drop-cons ks' 8 0 (omega arith))) in
        let eL : internode_of {W = Pointer} (take 9 (xs lo)) ≡ internode (map suc (take 8 ks')) (take 9 cs') =
        ap internode_of L ∙ fork-zip lo (map suc (take 8 ks')) (take 9 cs') (omega (arith, length-map (take 8 ks') suc)) in
        let eR : internode_of {W = Pointer} (drop 9 (xs lo)) ≡ internode (map suc (drop 9 ks')) (drop 9 cs') =
        ap internode_of R ∙ fork-zip (suc (get_or ks' 8 0)) (map suc (drop 9 ks')) (drop 9 cs')
        (omega (arith, length-map (drop 9 ks') suc, cs'-length)) in
        let low : low_of_children (drop 9 (xs lo)) ≡ suc (get_or ks' 8 0) =
        ap low_of_children R ∙ low-zip (suc (get_or ks' 8 0)) (map suc (drop 9 ks')) (drop 9 cs') (omega (arith, cs'-length)) in
        rw (
          internode-full nodes n k ikey child c,
          S,
          f-is,
          leb-not (length (xs lo)) 16 (omega (arith, xs-length lo)),
          low,
          fresh-is,
          eL,
          eR,
        ) (record {
          still = W2.still;
          pairs = refl;
          view = W2.view ∙ ap (λ (m : NodeList Pointer). set m f (internode (map suc (drop 9 ks')) (drop 9 cs'))) W1.view;
          head = λ i l. W2.head i l ∙ W1.head i l;
          kept = λ j z u i l. W2.others j (λ q. u (ap (kind_at nodes) q ∙ fr.1)) i l ∙ W1.others j (one_at-other k j z) i l;
        })

    internode-grown-lists : (lo : ℕ) → cond (leb (length (xs lo)) 16) 0 1 ≤ length (free_numbers 0 (View nodes n))
        → Grows (one_at k) nodes n lo k (internode_grown nodes n k ikey child)
        (write_or_split internode_of low_of_children 16 9 lo k (xs lo) (View nodes n))
    internode-grown-lists lo enough = ⊎_elim (λ r. grown-room lo r)
        (λ g. with-free (let z : count_at nodes k ≡ 15 = omega (arith, rules.few) in z) (free_nodes nodes n) refl)
        (lt-or-ge (count_at nodes k) 15)
      where
        with-free : count_at nodes k ≡ 15 → (fs : List ℕ) → free_nodes nodes n ≡ fs
            → Grows (one_at k) nodes n lo k (internode_grown nodes n k ikey child)
            (write_or_split internode_of low_of_children 16 9 lo k (xs lo) (View nodes n))
        with-free g [] fe =
            let q : ◌≡◌ {A = ℕ} (cond (leb (length (xs lo)) 16) 0 1) 1 =
            ap (λ (b : Bool). cond {A = ℕ} b 0 1) (leb-not (length (xs lo)) 16 (omega (arith, xs-length lo, ks'-length, ks-length))) in
            absurd (omega (arith, enough, ap length (frees-view nodes n N ∙ fe)))
        with-free g (f ∷ fs) fe = grown-full lo g fe

    -- its children A ++ B, and one more between them
    pub internode-grown : (lo : ℕ) (A B : List (ℕ × ℕ)) → children_of lo (node_in (View nodes n) k) ≡ A ++ B → length A ≡ suc p
        → cond (leb (length (A ++ (suc ikey, child) ∷ B)) 16) 0 1 ≤ length (free_numbers 0 (View nodes n))
        → Grows (one_at k) nodes n lo k (internode_grown nodes n k ikey child)
        (write_or_split internode_of low_of_children 16 9 lo k (A ++ (suc ikey, child) ∷ B) (View nodes n))
    internode-grown lo A B q a =
        subst (λ (ys : List (ℕ × ℕ)). cond (leb (length ys) 16) 0 1 ≤ length (free_numbers 0 (View nodes n))
        → Grows (one_at k) nodes n lo k (internode_grown nodes n k ikey child)
        (write_or_split internode_of low_of_children 16 9 lo k ys (View nodes n)))
        (sym (zip_inserted lo ks cs p ikey child l cs-length A B (sym (kids-are lo) ∙ q) a)) (internode-grown-lists lo)

  -- the same by the children alone: A and B, with one more between them, in order
  pub internode-adds : (lo ikey child p : ℕ) (A B : List (ℕ × ℕ)) → children_of lo (node_in (View nodes n) k) ≡ A ++ B → length A ≡ suc p
      → T (rising (map (λ (q : ℕ × ℕ). q.0) (A ++ (suc ikey, child) ∷ B)))
      → cond (leb (length (A ++ (suc ikey, child) ∷ B)) 16) 0 1 ≤ length (free_numbers 0 (View nodes n))
      → Grows (one_at k) nodes n lo k (internode_grown nodes n k ikey child)
      (write_or_split internode_of low_of_children 16 9 lo k (A ++ (suc ikey, child) ∷ B) (View nodes n))
  internode-adds lo ikey child p A B q a rise enough =
      let z = sym (kids-are lo) ∙ q in
      let m : length (map suc ks) ≡ length ks = length-map ks suc in
      let l : p ≤ length ks = omega (
        arith,
        ap length z,
        length-append A B,
        zip_length (lo ∷ map suc ks) cs (omega (arith, cs-length)),
        cs-length,
      ) in
      let ks' = inserted_at p ikey ks in
      let cs' = inserted_at (suc p) child cs in
      let n1 : length ks' ≡ suc (length ks) = inserted-length p ikey ks l in
      let n2 : length cs' ≡ suc (length cs) = inserted-length (suc p) child cs (omega (arith, cs-length)) in
      let n3 : length (map suc ks') ≡ length ks' = length-map ks' suc in
      let e : map (λ (q : ℕ × ℕ). q.0) (A ++ (suc ikey, child) ∷ B) ≡ lo ∷ map suc ks' =
      ap (map (λ (q : ℕ × ℕ). q.0)) (zip_inserted lo ks cs p ikey child l cs-length A B z a)
      ∙ zip-lows (lo ∷ map suc ks') cs' (omega (arith, cs-length)) in
      internode-grown p ikey child l (suc-rising ks' (tail-rising lo (map suc ks') (subst (λ (xs : List ℕ). T (rising xs)) e rise))) lo A
      B q a enough
