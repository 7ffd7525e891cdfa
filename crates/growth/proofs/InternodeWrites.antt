-- An internode in memory by its lists of ikeys and children, and one written. Assumes nothing.
use mathlib.Core.Path.{◌≡◌, refl, sym, ap, ap₂, ◌∙◌, subst}
use mathlib.Core.List.{List, [], ◌∷◌, ◌++◌, map, append_assoc, append-nil}
use Prim.Native.Nat.{ℕ, zero, suc, ◌+◌, ◌-◌, ◌≤◌, ◌<◌}
use native.Mathlib.Omega.{arith}
use lib.Dec.{T, eqb, leb, le→leb, leb→le, eqb→eq}
use lib.ListN.{length, take, drop, length-append, length-replicate, replicate-append-replicate}
use lib.Seq.{take-add, take-take, drop-drop}
use Rattle.bank.proofs.Tests.{and_left, and_right, and_both}
use Rattle.internode_places.specs.declared.Internode as declared
use Rattle.internode.specs.Lists.{rising}
use Rattle.internode.specs.Split.{node_of}
use Rattle.leaf.specs.Lists.{every}
use Rattle.lent_nodes.specs.declared.inside.Internode as arena
use Rattle.arena.specs.Parts.{part, zeros}
use Rattle.arena.specs.Layout.{node_start, kind_at, internode_words, put_internode}
use Rattle.arena.proofs.Words.{part-part, part_length, middle}
use Rattle.arena.proofs.Nodes.{node-stored, kind-stored, nodes-length}
use Rattle.forest.specs.Nodes.{all_zero, count_at, ikeys_at, children_at, internode_right}
use Rattle.trees.specs.Nodes.{internode}
use Rattle.model.specs.Internodes.{internode_in, internode_put}
use Rattle.growth.proofs.Frames.{sound-internode, view-internode}
use Rattle.growth.proofs.Memory.{Nodes, node-fits, Wrote}
use Rattle.growth.proofs.LeafWrites.{word-stored, put-wrote}

all-zeros : (c : ℕ) → T (all_zero (zeros c))
unfolding every
all-zeros zero = tt
all-zeros (suc c) = all-zeros c

-- nothing but zeros is so many zeros
zeros-are : (xs : List ℕ) → T (all_zero xs) → xs ≡ zeros (length xs)
unfolding every
zeros-are [] t = refl
zeros-are (x ∷ xs) t = ap₂ ◌∷◌ (eqb→eq x 0 (and_left (eqb x 0) _ t)) (zeros-are xs (and_right (eqb x 0) _ t))

zeros-take : (c : ℕ) (xs : List ℕ) → T (all_zero xs) → T (all_zero (take c xs))
unfolding every
zeros-take zero xs t = tt
zeros-take (suc c) [] t = tt
zeros-take (suc c) (x ∷ xs) t = and_both (eqb x 0) _ (and_left (eqb x 0) _ t) (zeros-take c xs (and_right (eqb x 0) _ t))

-- a part is one part behind another
part-two : (xs : List ℕ) (at a b : ℕ) → part xs at (a + b) ≡ part xs at a ++ part xs (at + a) b
unfolding part
part-two xs at a b = take-add a b (drop at xs) ∙ ap (λ (ys : List ℕ). take a (drop at xs) ++ take b ys) (drop-drop a at xs)

part-take : (xs : List ℕ) (at a b : ℕ) → a ≤ b → part xs at a ≡ take a (part xs at b)
unfolding part
part-take xs at a b h = sym (take-take a b (drop at xs) h)

-- ---- the rules of an internode, one by one

module _ (m : List ℕ) (k : ℕ) where
  pub record Internode : Type 0 where
    pub kind : kind_at m k ≡ 2
    pub few : count_at m k ≤ 15
    pub rises : T (rising (ikeys_at m k))
    pub ikeys-zero : T (all_zero (part m (node_start k + 2 + count_at m k) (15 - count_at m k)))
    pub rest-zero : T (all_zero (part m (node_start k + 18 + count_at m k) (29 - count_at m k)))

  pub internode-if : Internode → T (internode_right m k)
  unfolding internode_right
  internode-if r =
      let e = r.kind in
      and_both (eqb (kind_at m k) 2) _ (rw e tt)
      (and_both (leb (count_at m k) 15) _ (le→leb _ _ r.few)
      (and_both (rising (ikeys_at m k)) _ r.rises
      (and_both (all_zero (part m (node_start k + 2 + count_at m k) (15 - count_at m k))) _ r.ikeys-zero r.rest-zero)))

  pub internode-means : T (internode_right m k) → Internode
  unfolding internode_right
  internode-means t =
      let t2 = and_right (eqb (kind_at m k) 2) _ t in
      let t3 = and_right (leb (count_at m k) 15) _ t2 in
      let t4 = and_right (rising (ikeys_at m k)) _ t3 in
      record {
        kind = eqb→eq (kind_at m k) 2 (and_left (eqb (kind_at m k) 2) _ t);
        few = leb→le _ _ (and_left (leb (count_at m k) 15) _ t2);
        rises = and_left (rising (ikeys_at m k)) _ t3;
        ikeys-zero = and_left (all_zero (part m (node_start k + 2 + count_at m k) (15 - count_at m k))) _ t4;
        rest-zero = and_right (all_zero (part m (node_start k + 2 + count_at m k) (15 - count_at m k))) _ t4;
      }

  module _ (fits : node_start k + 47 ≤ length m) (r : Internode) where
    pub ikeys-length : length (ikeys_at m k) ≡ count_at m k
    unfolding ikeys_at
    ikeys-length = part_length m (node_start k + 2) (count_at m k) (omega (arith, r.few))

    pub children-length : length (children_at m k) ≡ count_at m k + 1
    unfolding children_at
    children-length = part_length m (node_start k + 17) (count_at m k + 1) (omega (arith, r.few))

    ikeys-15 : part m (node_start k + 2) 15 ≡ ikeys_at m k ++ zeros (15 - count_at m k)
    unfolding ikeys_at
    ikeys-15 =
        let n = count_at m k in
        let few = r.few in
        let z : 15 ≡ n + (15 - n) = omega arith in
        let p = part m (node_start k + 2 + n) (15 - n) in
        ap (part m (node_start k + 2)) z ∙ part-two m (node_start k + 2) n (15 - n)
        ∙ ap (λ (ys : List ℕ). part m (node_start k + 2) n ++ ys)
        (zeros-are p r.ikeys-zero ∙ ap zeros (part_length m (node_start k + 2 + n) (15 - n) (omega arith)))

    children-16 : part m (node_start k + 17) 16 ≡ children_at m k ++ zeros (15 - count_at m k)
    unfolding children_at
    children-16 =
        let n = count_at m k in
        let few = r.few in
        let z : 16 ≡ (n + 1) + (15 - n) = omega arith in
        let y : node_start k + 17 + (n + 1) ≡ node_start k + 18 + n = omega arith in
        let p = part m (node_start k + 18 + n) (15 - n) in
        let t : T (all_zero p) = subst (λ (ys : List ℕ). T (all_zero ys))
        (sym (part-take m (node_start k + 18 + n) (15 - n) (29 - n) (omega arith)))
        (zeros-take (15 - n) (part m (node_start k + 18 + n) (29 - n)) r.rest-zero) in
        ap (part m (node_start k + 17)) z ∙ part-two m (node_start k + 17) (n + 1) (15 - n)
        ∙ ap (λ (ys : List ℕ). part m (node_start k + 17) (n + 1) ++ ys)
        (ap (λ (a : ℕ). part m a (15 - n)) y ∙ zeros-are p t ∙ ap zeros (part_length m (node_start k + 18 + n) (15 - n) (omega arith)))

    -- by value it is its two lists, and zeros
    pub internode-in : internode_in m k ≡ node_of (ikeys_at m k) (children_at m k)
    unfolding internode_in
    internode-in =
        let c : 15 - count_at m k ≡ 16 - length (children_at m k) = omega (arith, children-length) in
        same (sym ikeys-length) (ikeys-15 ∙ ap (λ (n : ℕ). ikeys_at m k ++ zeros (15 - n)) (sym ikeys-length))
        (children-16 ∙ ap (λ (n : ℕ). children_at m k ++ zeros n) c)
      where
        same : {a b : ℕ} {i j c d : List ℕ} → a ≡ b → i ≡ j → c ≡ d
            → ◌≡◌ {A = declared.Internode} (record { n = a; ikeys = i; children = c }) (record { n = b; ikeys = j; children = d })
        same p q r = λ x. record { n = p x; ikeys = q x; children = r x }

-- ---- an internode with these ikeys and children

module _ (nodes : List ℕ) (n : ℕ) (N : Nodes nodes n) (k : ℕ) (h : k < n) (ks cs : List ℕ) (few : length ks ≤ 15)
    (one_more : length cs ≡ length ks + 1) where
  abbrev made : arena.Internode
  made = record { n = length ks; ikeys = (node_of ks cs).ikeys; children = (node_of ks cs).children }

  abbrev after : List ℕ
  after = put_internode nodes k made

  abbrev two : List ℕ
  two = 2 ∷ length ks ∷ []

  abbrev key_zeros : List ℕ
  key_zeros = zeros (15 - length ks)

  abbrev child_zeros : List ℕ
  child_zeros = zeros (16 - length cs)

  abbrev words : List ℕ
  words = internode_words made

  keys-15 : length (ks ++ key_zeros) ≡ 15
  keys-15 = simp (length-append, length-replicate) (omega arith)

  whole : length words ≡ 47
  whole = simp (length-append, length-replicate) (omega arith)

  -- the words, to the right
  unrolled : words ≡ two ++ (ks ++ (key_zeros ++ (cs ++ (child_zeros ++ zeros 14))))
  unrolled = ap (λ (xs : List ℕ). 2 ∷ length ks ∷ xs) (flat ks key_zeros cs child_zeros (zeros 14))
    where
      flat : (a b c d e : List ℕ) → a ++ b ++ (c ++ d) ++ e ≡ a ++ (b ++ (c ++ (d ++ e)))
      flat a b c d e = append_assoc (a ++ b) (c ++ d) e ∙ append_assoc a b ((c ++ d) ++ e)
          ∙ ap (λ (x : List ℕ). a ++ (b ++ x)) (append_assoc c d e)

  stored : (a c : ℕ) → a + c ≤ 47 → part after (node_start k + a) c ≡ part words a c
  stored a c l =
      let fits = node-fits nodes n N k h in
      sym (part-part after (node_start k) 47 a c (omega (arith, fits, nodes-length nodes k fits words whole)) l)
      ∙ ap (λ (xs : List ℕ). part xs a c) (node-stored nodes k fits words whole)

  after-count : count_at after k ≡ length ks
  after-count = word-stored nodes n N k h words whole 1 (omega arith)

  pub ikeys-put : ikeys_at after k ≡ ks
  unfolding ikeys_at
  ikeys-put =
      ap (part after (node_start k + 2)) after-count ∙ stored 2 (length ks) (omega arith)
      ∙ ap (λ (xs : List ℕ). part xs 2 (length ks)) unrolled
      ∙ middle two ks (key_zeros ++ (cs ++ (child_zeros ++ zeros 14))) 2 (length ks) refl refl

  pub children-put : children_at after k ≡ cs
  unfolding children_at
  children-put =
      ap (λ (c : ℕ). part after (node_start k + 17) (c + 1)) after-count ∙ stored 17 (length ks + 1) (omega arith)
      ∙ ap (λ (xs : List ℕ). part xs 17 (length ks + 1))
      (unrolled ∙ ap (λ (xs : List ℕ). two ++ xs) (sym (append_assoc ks key_zeros (cs ++ (child_zeros ++ zeros 14)))
      ∙ sym (append_assoc (ks ++ key_zeros) cs (child_zeros ++ zeros 14))))
      ∙ middle (two ++ (ks ++ key_zeros)) cs (child_zeros ++ zeros 14) 17 (length ks + 1) (omega (arith, keys-15)) one_more

  after-ikeys-zero : part after (node_start k + 2 + count_at after k) (15 - count_at after k) ≡ key_zeros
  after-ikeys-zero =
      let z : node_start k + 2 + length ks ≡ node_start k + (2 + length ks) = omega arith in
      ap (λ (c : ℕ). part after (node_start k + 2 + c) (15 - c)) after-count ∙ ap (λ (a : ℕ). part after a (15 - length ks)) z
      ∙ stored (2 + length ks) (15 - length ks) (omega arith)
      ∙ ap (λ (xs : List ℕ). part xs (2 + length ks) (15 - length ks))
      (unrolled ∙ ap (λ (xs : List ℕ). two ++ xs) (sym (append_assoc ks key_zeros (cs ++ (child_zeros ++ zeros 14)))))
      ∙ middle (two ++ ks) key_zeros (cs ++ (child_zeros ++ zeros 14)) (2 + length ks) (15 - length ks) (omega arith)
      (length-replicate (15 - length ks) 0)

  after-rest-zero : part after (node_start k + 18 + count_at after k) (29 - count_at after k) ≡ zeros (16 - length cs + 14)
  after-rest-zero =
      let z : node_start k + 18 + length ks ≡ node_start k + (18 + length ks) = omega arith in
      let c29 : length (child_zeros ++ zeros 14) ≡ 29 - length ks = simp (length-append, length-replicate) (omega arith) in
      let p18 : length (two ++ (ks ++ key_zeros ++ cs)) ≡ 18 + length ks = simp (length-append, length-replicate) (omega arith) in
      ap (λ (c : ℕ). part after (node_start k + 18 + c) (29 - c)) after-count ∙ ap (λ (a : ℕ). part after a (29 - length ks)) z
      ∙ stored (18 + length ks) (29 - length ks) (omega arith)
      ∙ ap (λ (xs : List ℕ). part xs (18 + length ks) (29 - length ks))
      (unrolled ∙ ap (λ (xs : List ℕ). two ++ xs) (sym (append_assoc ks key_zeros (cs ++ (child_zeros ++ zeros 14)))
      ∙ sym (append_assoc (ks ++ key_zeros) cs (child_zeros ++ zeros 14))
      ∙ sym (append-nil (ks ++ key_zeros ++ cs ++ (child_zeros ++ zeros 14)))))
      ∙ middle (two ++ (ks ++ key_zeros ++ cs)) (child_zeros ++ zeros 14) [] (18 + length ks) (29 - length ks) p18 c29
      ∙ replicate-append-replicate (16 - length cs) 14 0

  pub internode-put-right : T (rising ks) → T (internode_right after k)
  internode-put-right t =
      internode-if after k (record {
        kind = kind-stored nodes k (node-fits nodes n N k h) words whole;
        few = omega (arith, after-count);
        rises = subst (λ (xs : List ℕ). T (rising xs)) (sym ikeys-put) t;
        ikeys-zero = subst (λ (xs : List ℕ). T (all_zero xs)) (sym after-ikeys-zero) (all-zeros (15 - length ks));
        rest-zero = subst (λ (xs : List ℕ). T (all_zero xs)) (sym after-rest-zero) (all-zeros (16 - length cs + 14));
      })

  pub internode-put : T (rising ks) → Wrote nodes (internode_put nodes k (node_of ks cs)) n k (internode (map suc ks) cs)
  unfolding internode_put
  internode-put t =
      let r = internode-put-right t in
      put-wrote nodes n N k h words whole (internode (map suc ks) cs) (sound-internode after k r)
      (view-internode after k r ∙ ap₂ (λ (a b : List ℕ). internode (map suc a) b) ikeys-put children-put)
