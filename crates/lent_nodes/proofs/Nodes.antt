-- Laws on nodes: a leaf and an internode are their words, what is stored is what is loaded, other nodes are untouched. Assumes nothing.
use mathlib.Core.Path.{◌≡◌, refl, ap, sym, ◌∙◌}
use mathlib.Core.List.{List, [], ◌∷◌, ◌++◌, append_assoc, append-nil}
use mathlib.Core.Logic.{⊎_elim, ◌⊎◌, inl, inr}
use Prim.Native.Nat.{ℕ, ◌+◌, ◌≤◌, ◌<◌}
use native.Mathlib.Omega.{arith}
use lib.ListN.{length, get_or, set, length-append, length-set, length-replicate}
use Rattle.lent_nodes.specs.declared.inside.Leaf.{Leaf}
use Rattle.lent_nodes.specs.declared.inside.Internode.{Internode}
use Rattle.lent_words.specs.Parts.{part, put_part, zeros}
use Rattle.lent_nodes.specs.Layout.{node_start, node_at, put_node, kind_at, word_at, leaf_of, leaf_words, leaf_at, put_leaf, internode_of}
use Rattle.lent_nodes.specs.Layout.{internode_words, internode_at, put_internode, free_words, freed_node, WholeLeaf, WholeInternode}
use Rattle.lent_words.proofs.Words.{part_at, part-part, part-kept, put-put, put_same, put-out, put-left, put-length, first-put, set-put}
use Rattle.lent_words.proofs.Words.{middle, lt-or-ge}

-- ---- the words of a node

pub leaf-length : (l : Leaf) → WholeLeaf l → length (leaf_words l) ≡ 47
leaf-length l w = simp length-append (omega (arith, w.ikeys-15, w.classes-15, w.refs-15))

pub internode-length : (x : Internode) → WholeInternode x → length (internode_words x) ≡ 47
internode-length x w = simp (length-append, length-replicate) (omega (arith, w.ikeys-15, w.children-16))

pub free-length : length free_words ≡ 47
free-length = length-replicate {A = ℕ} 47 0

-- a leaf is what its words say
pub leaf-words : (l : Leaf) → WholeLeaf l → leaf_of (leaf_words l) ≡ l
unfolding leaf_of
leaf-words l w =
    let i = l.ikeys in let c = l.classes in let r = l.refs in let ws : List ℕ = 1 ∷ l.word ∷ [] in
    let pi : part (leaf_words l) 2 15 ≡ i = rw (append_assoc i c r) (middle ws i (c ++ r) 2 15 refl w.ikeys-15) in
    let pc : part (leaf_words l) 17 15 ≡ c = middle (ws ++ i) c r 17 15 (omega (arith, w.ikeys-15)) w.classes-15 in
    let pr : part (leaf_words l) 32 15 ≡ r =
    ap (λ (z : List ℕ). part z 32 15) (sym (append-nil (leaf_words l)))
    ∙ middle (ws ++ (i ++ c)) r [] 32 15 (simp length-append (omega (arith, w.ikeys-15, w.classes-15))) w.refs-15 in
    rw (pi, pc, pr)

-- and so is an internode
pub internode-words : (x : Internode) → WholeInternode x → internode_of (internode_words x) ≡ x
unfolding internode_of
internode-words x w =
    let i = x.ikeys in let c = x.children in let ws : List ℕ = 2 ∷ x.n ∷ [] in
    let pi : part (internode_words x) 2 15 ≡ i = rw (append_assoc i c (zeros 14)) (middle ws i (c ++ zeros 14) 2 15 refl w.ikeys-15) in
    let pc : part (internode_words x) 17 16 ≡ c = middle (ws ++ i) c (zeros 14) 17 16 (omega (arith, w.ikeys-15)) w.children-16 in
    rw (pi, pc)

-- ---- what is stored is what is loaded, and other nodes stay; `ws` are the words stored

-- no word is in two nodes
pub nodes-apart : (j k : ℕ) → (j ≡ k → ⊥) → (node_start j + 47 ≤ node_start k) ⊎ (node_start k + 47 ≤ node_start j)
nodes-apart j k ne = ⊎_elim (λ l. inl (omega arith)) (λ g. inr (omega arith)) (lt-or-ge j k)

module _ (m : List ℕ) (k : ℕ) (fits : node_start k + 47 ≤ length m) (ws : List ℕ) (whole : length ws ≡ 47) where
  pub node-stored : node_at (put_node m k ws) k ≡ ws
  node-stored = put_same m (node_start k) ws 47 fits whole

  pub node_kept : (j : ℕ) → node_start j + 47 ≤ length m → (j ≡ k → ⊥) → node_at (put_node m k ws) j ≡ node_at m j
  node_kept j g ne = part-kept m (node_start k) ws (rw whole fits) (node_start j) 47 g (rw whole (nodes-apart j k ne))

  pub kind-stored : kind_at (put_node m k ws) k ≡ get_or ws 0 0
  kind-stored = first-put m (node_start k) ws (rw whole fits) (omega arith)

  pub kind-kept : (j : ℕ) → (j ≡ k → ⊥) → kind_at (put_node m k ws) j ≡ kind_at m j
  kind-kept j ne =
      put-out m (node_start k) ws (rw whole fits) (node_start j)
      (⊎_elim (λ p. inl (omega arith)) (λ p. inr (omega arith)) (nodes-apart j k ne))

  -- the two words before the nodes
  pub head-kept : (i : ℕ) → i < 2 → get_or (put_node m k ws) i 0 ≡ get_or m i 0
  head-kept i h = put-left m (node_start k) ws (rw whole fits) i (omega arith)

  pub nodes-length : length (put_node m k ws) ≡ length m
  nodes-length = put-length m (node_start k) ws (rw whole fits)

module _ (m : List ℕ) (k : ℕ) (fits : node_start k + 47 ≤ length m) where
  pub leaf-stored : (l : Leaf) → WholeLeaf l → leaf_at (put_leaf m k l) k ≡ l
  leaf-stored l w = ap leaf_of (node-stored m k fits (leaf_words l) (leaf-length l w)) ∙ leaf-words l w

  pub internode-stored : (x : Internode) → WholeInternode x → internode_at (put_internode m k x) k ≡ x
  internode-stored x w = ap internode_of (node-stored m k fits (internode_words x) (internode-length x w)) ∙ internode-words x w

  pub node-freed : node_at (freed_node m k) k ≡ free_words
  node-freed = node-stored m k fits free_words free-length

-- ---- as the code has them, one after the other

module _ (m : List ℕ) (k : ℕ) (fits : node_start k + 47 ≤ length m) where
  pub word-loaded : (i : ℕ) → i < 47 → get_or (node_at m k) i 0 ≡ word_at m k i
  word-loaded i h = part_at m (node_start k) 47 i h

  pub internode-loaded : {n : ℕ} {i c : List ℕ} → n ≡ get_or m (node_start k + 1) 0 → i ≡ part m (node_start k + 2) 15
      → c ≡ part m (node_start k + 17) 16 → record { n = n; ikeys = i; children = c } ≡ internode_at m k
  unfolding internode_of
  internode-loaded en ei ec =
      cc (
        word-loaded 1 (omega arith),
        part-part m (node_start k) 47 2 15 fits (omega arith),
        part-part m (node_start k) 47 17 16 fits
            (omega arith),
      )

next : (xs : List ℕ) (at : ℕ) (ys : List ℕ) (bt : ℕ) (zs : List ℕ) → bt ≡ at + length ys → bt + length zs ≤ length xs
    → put_part (put_part xs at ys) bt zs ≡ put_part xs at (ys ++ zs)
next xs at ys bt zs e h = rw e (put-put xs at ys zs (omega arith))

-- two words and three parts, written one after the other, are one part
five : (m : List ℕ) (at a b : ℕ) (xs ys zs : List ℕ) (bt ct : ℕ) → bt ≡ at + 2 + length xs → ct ≡ bt + length ys → ct + length zs ≤ length m
    → put_part (put_part (put_part (set (set m at a) (at + 1) b) (at + 2) xs) bt ys) ct zs ≡ put_part m at (a ∷ b ∷ (xs ++ ys ++ zs))
five m at a b xs ys zs bt ct eb ec h =
    let ws : List ℕ = a ∷ b ∷ [] in
    let e1 : set m at a ≡ put_part m at (a ∷ []) = set-put m at a (omega arith) in
    let e2 : set (set m at a) (at + 1) b ≡ put_part m at ws =
    set-put (set m at a) (at + 1) b (rw length-set (omega arith))
    ∙ ap (λ (x : List ℕ). put_part x (at + 1) (b ∷ [])) e1
    ∙ next m at (a ∷ []) (at + 1) (b ∷ []) refl (omega arith) in
    rw (
      e2,
      next m at ws (at + 2) xs refl (omega arith),
      next m at (ws ++ xs) bt ys (omega arith) (omega arith),
      next m at (ws ++ xs ++ ys) ct zs (simp length-append (omega arith)) (omega arith),
    )

pub leaf-written : (m : List ℕ) (k : ℕ) (l : Leaf) {m1 m2 m3 m4 m5 : List ℕ} → WholeLeaf l → node_start k + 47 ≤ length m
    → m1 ≡ set m (node_start k) 1 → m2 ≡ set m1 (node_start k + 1) l.word → m3 ≡ put_part m2 (node_start k + 2) l.ikeys
    → m4 ≡ put_part m3 (node_start k + 17) l.classes → m5 ≡ put_part m4 (node_start k + 32) l.refs → m5 ≡ put_leaf m k l
leaf-written m k l w h e1 e2 e3 e4 e5 =
    rw (e5, e4, e3, e2, e1)
    (five m (node_start k) 1 l.word l.ikeys l.classes l.refs (node_start k + 17) (node_start k + 32) (omega arith) (omega arith)
    (omega arith))

pub internode-written : (m : List ℕ) (k : ℕ) (x : Internode) {m1 m2 m3 m4 m5 : List ℕ} → WholeInternode x → node_start k + 47 ≤ length m
    → m1 ≡ set m (node_start k) 2 → m2 ≡ set m1 (node_start k + 1) x.n → m3 ≡ put_part m2 (node_start k + 2) x.ikeys
    → m4 ≡ put_part m3 (node_start k + 17) x.children → m5 ≡ put_part m4 (node_start k + 33) (zeros 14) → m5 ≡ put_internode m k x
internode-written m k x w h e1 e2 e3 e4 e5 =
    rw (e5, e4, e3, e2, e1)
    (five m (node_start k) 2 x.n x.ikeys x.children (zeros 14) (node_start k + 17) (node_start k + 33) (omega arith) (omega arith)
    (omega (arith, length-replicate {A = ℕ} 14 0)))
