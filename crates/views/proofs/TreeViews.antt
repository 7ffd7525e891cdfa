-- The tree of one layer and its view: the same root, entries, nodes and bounds; memory has the one exactly where its view has
-- the other. Assumes nothing.
use mathlib.Core.Path.{◌≡◌, refl, sym, ap, ap₂, ◌∙◌, subst}
use mathlib.Core.List.{List, [], ◌∷◌, map}
use Prim.Native.Nat.{ℕ, zero, suc, ◌+◌, ◌*◌, ◌≤◌, ◌<◌}
use native.Mathlib.Omega.{arith}
use native.Mathlib.Decide.{ℕ_discrete}
use lib.Dec.{T, eqb, leb, leb→le}
use lib.ListN.{length, drop, length-map}
use borrow.Author.Tests.{ne_eqb}
use Rattle.bank.proofs.Tests.{and_left, and_right}
use Rattle.order.specs.Map.{All, ◌a∷◌, a[], Sorted}
use Rattle.arena.specs.Layout.{node_start, kind_at}
use Rattle.arena.specs.Memory.{Memory}
use Rattle.arena.proofs.Words.{part_length}
use Rattle.forest.specs.Nodes.{entries_at, ikeys_at, children_at, count_at, leaf_right, internode_right}
use Rattle.forest.specs.Trees.{Key, Ref, seen_as, Tree, top_of, entries_of, node_no, cell_no, once, nodes_of, Holds, Between, last, next, Bounded}
use Rattle.forest.proofs.Decides.{once-same, once-other}
use Rattle.forest.proofs.Inside.{leaf-kind, internode-kind, leaf-inside, internode-inside, one-child-more}
use Rattle.trees.specs.Nodes.{IkeyClass, layer_order, Node, leaf, internode, node_in, one_at, InUse}
use Rattle.trees.specs.Tree.{Abutting, last_child, and_next, TreeOver, internode_of, tree_root, tree_entries, tree_reaches, HoldsTree, WellFormed}
use Rattle.trees.specs.Layers.{Pointer}
use Rattle.trees.proofs.Nodes.{one_at-same}
use Rattle.trees.proofs.FreeNumbers.{in-use-inside}
use Rattle.views.specs.Views.{entry_view, node_view, nodes_view, tree_view, Sound}
use Rattle.views.proofs.Lists.{map-map, map_same, all-to, all_from, unmap, total-view, total-zero, flattened-map, map-flattened}
use Rattle.views.proofs.Lists.{flattened-all}
use Rattle.views.proofs.Entries.{entries-exact, rising-sorted, classes-nine, leaf-classes, leaf-rising, leaf-few, LinkNine}
use Rattle.views.proofs.Entries.{seen-links}
use Rattle.views.proofs.Nodes.{nodes_in, nodes-long, node-at, leaf-view, inner-view, free-view, free-kind, node-cases}
use Rattle.order.proofs.Map.{all-zip, all_map}

-- ---- numbers: node j is 2j, cell j is 2j + 1

pub hit_other : (n j : ℕ) → (n ≡ j → ⊥) → one_at n j ≡ 0
unfolding one_at
hit_other n j ne = rw (ne_eqb n j ne)

pub node-once : (n j : ℕ) → one_at n j ≡ once (node_no n) (node_no j)
node-once n j = go (ℕ_discrete n j)
  where
    go : Dec (n ≡ j) → one_at n j ≡ once (node_no n) (node_no j)
    go (yes e) = rw (← e) (one_at-same n ∙ sym (once-same (node_no n)))
    go (no ne) = hit_other n j ne ∙ sym (once-other (node_no n) (node_no j) (λ q. ne (omega arith)))

pub cell-once : (n j : ℕ) → one_at n j ≡ once (cell_no n) (cell_no j)
cell-once n j = go (ℕ_discrete n j)
  where
    go : Dec (n ≡ j) → one_at n j ≡ once (cell_no n) (cell_no j)
    go (yes e) = rw (← e) (one_at-same n ∙ sym (once-same (cell_no n)))
    go (no ne) = hit_other n j ne ∙ sym (once-other (cell_no n) (cell_no j) (λ q. ne (omega arith)))

pub node-no-cell : (n j : ℕ) → once (node_no n) (cell_no j) ≡ 0
node-no-cell n j = once-other (node_no n) (cell_no j) (λ q. omega arith)

pub cell-no-node : (n j : ℕ) → once (cell_no n) (node_no j) ≡ 0
cell-no-node n j = once-other (cell_no n) (node_no j) (λ q. omega arith)

-- ---- a tree and its view

abbrev pub child_view : (h : ℕ) → ℕ × Tree h → ℕ × TreeOver Pointer h
child_view h p = (p.0, tree_view h p.1)

pub root-view : (h : ℕ) (t : Tree h) → tree_root Pointer h (tree_view h t) ≡ top_of h t
root-view zero t = refl
root-view (suc h) t = refl

pub list-view : (h : ℕ) (t : Tree h) → tree_entries Pointer h (tree_view h t) ≡ map entry_view (entries_of h t)
list-view zero t = refl
list-view (suc h) t =
    flattened-map (child_view h) (λ p. tree_entries Pointer h p.1) t.1
    ∙ sym (map-flattened entry_view (λ p. entries_of h p.1) (λ p. tree_entries Pointer h (tree_view h p.1))
    (λ p. sym (list-view h p.1)) t.1)

-- how often a node is reached; no cell is
pub count-view : (h : ℕ) (t : Tree h) (j : ℕ) → tree_reaches Pointer h (tree_view h t) j ≡ nodes_of h t (node_no j)
count-view zero t j = node-once t.0 j
count-view (suc h) t j =
    ap₂ ◌+◌ (node-once t.0 j)
    (total-view (child_view h) (λ p. nodes_of h p.1 (node_no j)) (λ p. tree_reaches Pointer h p.1 j) (λ p. count-view h p.1 j) t.1)

pub no_cells : (h : ℕ) (t : Tree h) (j : ℕ) → nodes_of h t (cell_no j) ≡ 0
no_cells zero t j = node-no-cell t.0 j
no_cells (suc h) t j =
    omega (arith, node-no-cell t.0 j, total-zero (λ p. nodes_of h p.1 (cell_no j)) (λ p. no_cells h p.1 j) t.1)

-- the node of an internode's children, by their edges and numbers
abbrev numbered : (h : ℕ) → ℕ × TreeOver Pointer h → ℕ × ℕ
numbered h p = (p.0, tree_root Pointer h p.1)

fork-edges : (h : ℕ) (ps : List (ℕ × Tree h))
    → map (λ (p : ℕ × ℕ). p.0) (drop 1 (map (numbered h) (map (child_view h) ps))) ≡ map (λ p. p.0) (drop 1 ps)
fork-edges h [] = refl
fork-edges h (p ∷ ps) =
    ap (map (λ (p : ℕ × ℕ). p.0)) (map-map (child_view h) (numbered h) ps)
    ∙ map-map (λ p. numbered h (child_view h p)) (λ (p : ℕ × ℕ). p.0) ps

fork-tops : (h : ℕ) (ps : List (ℕ × Tree h))
    → map (λ (p : ℕ × ℕ). p.1) (map (numbered h) (map (child_view h) ps)) ≡ map (λ p. top_of h p.1) ps
fork-tops h ps =
    ap (map (λ (p : ℕ × ℕ). p.1)) (map-map (child_view h) (numbered h) ps)
    ∙ map-map (λ p. numbered h (child_view h p)) (λ (p : ℕ × ℕ). p.1) ps
    ∙ map_same (λ p. root-view h p.1) ps

fork-view : (h : ℕ) (ps : List (ℕ × Tree h))
    → internode_of {W = Pointer} (map (numbered h) (map (child_view h) ps))
    ≡ internode (map (λ p. p.0) (drop 1 ps)) (map (λ p. top_of h p.1) ps)
fork-view h ps = ap₂ internode (fork-edges h ps) (fork-tops h ps)

-- ---- bounds

module _ (h : ℕ) {R : ℕ → ℕ → Tree h → Type 0} {Q : ℕ → ℕ → TreeOver Pointer h → Type 0} where
  between-view : {H : Tree h → Type 0} → ((lo hi : ℕ) (t : Tree h) → H t → R lo hi t → Q lo hi (tree_view h t))
      → {lo hi : ℕ} {ps : List (ℕ × Tree h)} → All (λ p. H p.1) ps → Between R hi lo ps → Abutting Q hi lo (map (child_view h) ps)
  between-view f a[] x3 = elim x3 [ ]
  between-view f {lo} {hi} (g a∷ gs) (last {p = p} e l r) = last_child e l (f lo hi p.1 g r)
  between-view f {lo} (g a∷ gs) (next s {p = p} e l r rest) = and_next s e l (f lo s p.1 g r) (between-view f {lo = s} gs rest)

  view-between : ((lo hi : ℕ) (t : Tree h) → Q lo hi (tree_view h t) → R lo hi t) → (lo hi : ℕ) (ps : List (ℕ × Tree h))
      → Abutting Q hi lo (map (child_view h) ps) → Between R hi lo ps
  view-between f lo hi [] x' = elim x' [ ]
  view-between f lo hi (p ∷ []) (last_child e l q) = last e l (f lo hi p.1 q)
  view-between f lo hi (p ∷ []) (and_next s e l q c) = next s e l (f lo s p.1 q) (view-between f s hi [] c)
  view-between f lo hi (p ∷ x ∷ ps) (and_next s e l q c) = next s e l (f lo s p.1 q) (view-between f s hi (x ∷ ps) c)

pub bounded-view : (h lo hi : ℕ) (t : Tree h) → WellFormed Pointer 15 h lo hi (tree_view h t) → Bounded h lo hi t
bounded-view zero lo hi t w = all_from entry_view (λ e q. (q.0, q.1)) t.1 w.1
bounded-view (suc h) lo hi t w = view-between h (bounded-view h) lo hi t.1 w.0

-- ---- memory has the tree

leaf-node-exact : {es fs : List (IkeyClass × Pointer)} → leaf es ≡ leaf fs → es ≡ fs
leaf-node-exact e = cc

inner-ikeys-exact : {W : Type 0} {ks js cs ds : List ℕ} → ◌≡◌ {A = Node W} (internode ks cs) (internode js ds) → ks ≡ js
inner-ikeys-exact e = cc

inner-children-exact : {W : Type 0} {ks js cs ds : List ℕ} → ◌≡◌ {A = Node W} (internode ks cs) (internode js ds) → cs ≡ ds
inner-children-exact e = cc

internode-few : (nodes : List ℕ) (N k : ℕ) → length nodes ≡ 2 + N * 47 → T (internode_right nodes k) → length (ikeys_at nodes k) ≤ 15
unfolding internode_right ikeys_at
internode-few nodes N k whole t =
    let n = count_at nodes k in
    let few : n ≤ 15 = leb→le _ _ (and_left (leb n 15) _ (and_right (eqb (kind_at nodes k) 2) _ t)) in
    let inside : k < N = internode-inside nodes N whole k t in
    omega (arith, part_length nodes (node_start k + 2) n (omega arith))

module _ (m : Memory) (whole : length m.nodes ≡ 2 + nodes_in m * 47) where
  abbrev words : List ℕ
  words = m.nodes

  abbrev seen_in : ℕ → List (IkeyClass × Pointer)
  seen_in n = map (λ e. entry_view (seen_as e)) (entries_at words n)

  leaf-at : (n : ℕ) → T (leaf_right words n) → node_in (nodes_view m) n ≡ leaf (seen_in n)
  leaf-at n r = node-at m n (leaf-inside words (nodes_in m) whole n r) ∙ leaf-view words n (leaf-kind words n r)

  inner-at : (n : ℕ) → T (internode_right words n) → node_in (nodes_view m) n ≡ internode (map suc (ikeys_at words n)) (children_at words n)
  inner-at n r = node-at m n (internode-inside words (nodes_in m) whole n r) ∙ inner-view words n (internode-kind words n r)

  seen-entries : (n : ℕ) (es : List (Key × Ref)) → map seen_as (entries_at words n) ≡ es → seen_in n ≡ map entry_view es
  seen-entries n es e = sym (map-map seen_as entry_view (entries_at words n)) ∙ ap (map entry_view) e

  -- what memory has, its view has
  pub holds-view : (h : ℕ) (t : Tree h) → Holds words h t → HoldsTree Pointer (nodes_view m) h (tree_view h t)
  holds-view zero t held = leaf-at t.0 held.0 ∙ ap leaf (seen-entries t.0 t.1 held.1)
  holds-view (suc h) t held = (
    inner-at t.0 held.0 ∙ ap₂ internode held.1 held.2 ∙ sym (fork-view h t.1),
    all-to (child_view h) (λ p. holds-view h p.1) held.3,
  )

  -- within its edges, it keeps order, bounds and sizes
  pub wf-view : (h lo hi : ℕ) (t : Tree h) → Holds words h t → Bounded h lo hi t → WellFormed Pointer 15 h lo hi (tree_view h t)
  wf-view zero lo hi t held b =
      let n = t.0 in
      let es = entries_at words n in
      let e : seen_in n ≡ map entry_view t.1 = seen-entries n t.1 held.1 in
      let few : length (seen_in n) ≤ 15 = omega (arith, length-map es (λ e. entry_view (seen_as e)), leaf-few words n) in
      let nine : All (λ x. x.0.1 ≤ 9) (seen_in n) = classes-nine es (leaf-classes words n held.0) in
      let within : All (λ x. (lo ≤ x.0.0) × (x.0.0 < hi)) (map entry_view t.1) = all-to entry_view (λ x p. p) b in (
        subst (Sorted layer_order) e (rising-sorted es (leaf-classes words n held.0) (leaf-rising words n held.0)),
        all-zip (λ x p q. (p.0, p.1, q)) within (subst (All (λ x. x.0.1 ≤ 9)) e nine),
        subst (λ (xs : List (IkeyClass × Pointer)). length xs ≤ 15) e few,
      )
  wf-view (suc h) lo hi t held b =
      let few = internode-few words (nodes_in m) t.0 whole held.0 in
      let one = one-child-more words (nodes_in m) whole t.0 held.0 in
      let tops : length (children_at words t.0) ≡ length t.1 = ap length held.2 ∙ length-map t.1 (λ p. top_of h p.1) in
      (between-view h (λ lo hi t. wf-view h lo hi t) held.3 b, rw (length-map t.1 (child_view h)) (omega arith))

  -- the links of its leaves are of class 9
  pub links-nine : (h : ℕ) (t : Tree h) → Holds words h t → All LinkNine (entries_of h t)
  links-nine zero t held = subst (All LinkNine) held.1 (seen-links (entries_at words t.0))
  links-nine (suc h) t held = flattened-all (λ p. entries_of h p.1) (λ p. links-nine h p.1) held.3

  -- ---- and back, where each node is right by itself

  module _ (sound : Sound m) where
    inside-view : (n : ℕ) → InUse (node_in (nodes_view m) n) → n < nodes_in m
    inside-view n u = omega (arith, in-use-inside (nodes_view m) n u, nodes-long m)

    leaf-there : (n : ℕ) (es : List (IkeyClass × Pointer)) → node_in (nodes_view m) n ≡ leaf es → T (leaf_right words n) × (seen_in n ≡ es)
    leaf-there n es e =
        let inside : n < nodes_in m = inside-view n (subst InUse (sym e) tt) in
        let seen : node_view words n ≡ leaf es = sym (node-at m n inside) ∙ e in
        node-cases words n (sound.nodes-sound n inside)
        (λ f. let q = free-view words n (free-kind words n f) in let z : ◌≡◌ {A = ℕ} 0 1 = cc in absurd (omega arith))
        (λ r. (r, leaf-node-exact (sym (leaf-view words n (leaf-kind words n r)) ∙ seen)))
        (λ r. let q = inner-view words n (internode-kind words n r) in let z : ◌≡◌ {A = ℕ} 0 1 = cc in absurd (omega arith))

    inner-there : (n : ℕ) (ks cs : List ℕ) → node_in (nodes_view m) n ≡ internode ks cs
        → T (internode_right words n) × (map suc (ikeys_at words n) ≡ ks) × (children_at words n ≡ cs)
    inner-there n ks cs e =
        let inside : n < nodes_in m = inside-view n (subst InUse (sym e) tt) in
        let seen : node_view words n ≡ internode ks cs = sym (node-at m n inside) ∙ e in
        node-cases words n (sound.nodes-sound n inside)
        (λ f. let q = free-view words n (free-kind words n f) in let z : ◌≡◌ {A = ℕ} 0 1 = cc in absurd (omega arith))
        (λ r. let q = leaf-view words n (leaf-kind words n r) in let z : ◌≡◌ {A = ℕ} 0 1 = cc in absurd (omega arith))
        (λ r.
        let q = sym (inner-view words n (internode-kind words n r)) ∙ seen in (r, inner-ikeys-exact q, inner-children-exact q))

    pub view-holds : (h : ℕ) (t : Tree h) → HoldsTree Pointer (nodes_view m) h (tree_view h t) → Holds words h t
    view-holds zero t held =
        let (r, e) = leaf-there t.0 (map entry_view t.1) held in
        (r, entries-exact _ _ (map-map seen_as entry_view (entries_at words t.0) ∙ e))
    view-holds (suc h) t held =
        let (r, ks, cs) = inner-there t.0 _ _ (held.0 ∙ fork-view h t.1) in
        (r, ks, cs, all_from (child_view h) (λ p. view-holds h p.1) t.1 held.1)

    -- a tree that the view has is a view
    pub tree-behind : (h : ℕ) (t : TreeOver Pointer h) → HoldsTree Pointer (nodes_view m) h t → (u : Tree h) × (tree_view h u ≡ t)
    tree-behind zero t held =
        let (r, e) = leaf-there t.0 t.1 held in
        let es = entries_at words t.0 in
        let q : map entry_view (map seen_as es) ≡ t.1 = map-map seen_as entry_view es ∙ e in
        ((t.0, map seen_as es), λ i. (t.0, q i))
    tree-behind (suc h) t held =
        let (us, e) = unmap (child_view h) (all_map (λ p g.
        let (u, q) = tree-behind h p.1 g in ((p.0, u), λ i. (p.0, q i))) held.1) in
        ((t.0, us), λ i. (t.0, e i))
