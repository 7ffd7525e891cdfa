-- The walk of a node decides whether memory has a tree of this height there, between these edges, with a witness for each entry.
-- Assumes nothing.
use mathlib.Core.Path.{◌≡◌, refl, sym, ap, ◌∙◌, subst}
use mathlib.Core.List.{List, [], ◌∷◌, map}
use Prim.Native.Nat.{ℕ, zero, suc, ◌+◌, ◌*◌}
use native.Mathlib.Omega.{arith}
use lib.Dec.{T, leb, ltb, leb→le, le→leb, ltb→lt, lt→ltb}
use lib.ListN.{length, drop}
use Rattle.bank.proofs.Tests.{and_left, and_right, and_both}
use Rattle.order.specs.Map.{All, a[], ◌a∷◌}
use Rattle.order.specs.Lists.{total, flattened}
use Rattle.forest.specs.Nodes.{leaf_right, internode_right, entries_at, ikeys_at, children_at}
use Rattle.forest.specs.Trees.{Key, Ref, seen_as, Tree, top_of, entries_of, node_no, once, nodes_of, Holds}
use Rattle.forest.specs.Trees.{Within, Between, last, next, Bounded}
use Rattle.forest.specs.Walk.{Step, within, walk_entry, Span, spans, walk_span, walk_leaf, walk_internode, walk_node, each}
use Rattle.forest.proofs.Decides.{Decides, Counting, Each, sum_each}
use Rattle.forest.proofs.Decides.{in_words, see-decides, when-decides, then-decides, each-decides}
use Rattle.forest.proofs.Witnesses.{each_append, each-split}
use Rattle.forest.proofs.Inside.{one-child-more}

-- the first of children side by side has the left edge
pub first_edge : {C : Type 0} {R : ℕ → ℕ → C → Type 0} {hi lo : ℕ} {ps : List (ℕ × C)} → Between R hi lo ps
    → map (λ p. p.0) ps ≡ lo ∷ map (λ p. p.0) (drop 1 ps)
first_edge (last {p = p} q lt r) = ap (◌∷ []) q
first_edge (next edge {ps = ps} q lt r rest) = ap (◌∷ map (λ p. p.0) ps) q

-- W e are the witnesses of entry e, each with what it counts
module _ (nodes : List ℕ) (W : Key × Ref → Type 0) (count : (e : Key × Ref) → W e → ℕ → ℕ) where
  -- a tree between two edges with node n at its top, and a witness for each of its entries
  abbrev pub Found : (h lo hi n : ℕ) → Type 0
  Found h lo hi n = (t : Tree h) × (top_of h t ≡ n) × Holds nodes h t × Bounded h lo hi t × Each W (entries_of h t)

  abbrev pub found : (h lo hi n : ℕ) → Found h lo hi n → ℕ → ℕ
  found h lo hi n y i = nodes_of h y.0 i + sum_each count (entries_of h y.0) y.4 i

  -- ---- entries

  abbrev Entry : ℕ → ℕ → Key × Ref → Type 0
  Entry lo hi e = T (within lo hi e) × W e

  abbrev entry_count : (lo hi : ℕ) (e : Key × Ref) → Entry lo hi e → ℕ → ℕ
  entry_count lo hi e y i = count e y.1 i

  entries-to : (lo hi : ℕ) (xs : List (Key × Ref)) (ys : Each (Entry lo hi) xs)
      → Counting (All (Within lo hi) xs × Each W xs) (λ y. sum_each count xs y.1) (sum_each (entry_count lo hi) xs ys)
  entries-to lo hi [] ys = ((a[], tt), λ i. refl)
  entries-to lo hi (x ∷ xs) ys =
      let (z, q) = entries-to lo hi xs ys.1 in
      let above = leb lo (suc x.0.0) in
      let inside : Within lo hi x = (leb→le _ _ (and_left above _ ys.0.0), ltb→lt _ _ (and_right above _ ys.0.0)) in
      ((inside a∷ z.0, (ys.0.1, z.1)), λ i. omega (arith, q i))

  entries_from : (lo hi : ℕ) (xs : List (Key × Ref)) → All (Within lo hi) xs → (ws : Each W xs)
      → Counting (Each (Entry lo hi) xs) (sum_each (entry_count lo hi) xs) (sum_each count xs ws)
  entries_from lo hi [] bs ws = (tt, λ i. refl)
  entries_from lo hi (x ∷ xs) (b a∷ bs) ws =
      let (ys, q) = entries_from lo hi xs bs ws.1 in
      let inside : T (within lo hi x) = and_both (leb lo (suc x.0.0)) _ (le→leb _ _ b.0) (lt→ltb _ _ b.1) in
      (((inside, ws.0), ys), λ i. omega (arith, q i))

  -- ---- children

  module _ (h : ℕ) where
    abbrev Child : Span → Type 0
    Child s = T (ltb s.0 s.1) × Found h s.0 s.1 s.2

    abbrev child_count : (s : Span) → Child s → ℕ → ℕ
    child_count s y i = found h s.0 s.1 s.2 y.1 i

    abbrev tops : List (ℕ × Tree h) → List ℕ
    tops ps = map (λ p. top_of h p.1) ps

    abbrev entries : List (ℕ × Tree h) → List (Key × Ref)
    entries ps = flattened (λ p. entries_of h p.1) ps

    abbrev both : (ps : List (ℕ × Tree h)) → Each W (entries ps) → ℕ → ℕ
    both ps ws i = total (λ p. nodes_of h p.1 i) ps + sum_each count (entries ps) ws i

    -- children side by side, as an internode with these ikeys and these numbers has them
    abbrev Children : (lo hi : ℕ) → List ℕ → List ℕ → Type 0
    Children lo hi ks cs =
        (ps : List (ℕ × Tree h)) × (map suc ks ≡ map (λ p. p.0) (drop 1 ps)) × (cs ≡ tops ps)
        × All (λ p. Holds nodes h p.1) ps × Between (Bounded h) hi lo ps × Each W (entries ps)

    abbrev children_count : (lo hi : ℕ) (ks cs : List ℕ) → Children lo hi ks cs → ℕ → ℕ
    children_count lo hi ks cs y i = both y.0 y.5 i

    children-to : (lo hi : ℕ) (ks cs : List ℕ) → length cs ≡ suc (length ks) → (ys : Each Child (spans lo hi ks cs))
        → Counting (Children lo hi ks cs) (children_count lo hi ks cs) (sum_each child_count (spans lo hi ks cs) ys)
    unfolding spans
    children-to lo hi ks [] e ys = absurd (omega arith)
    children-to lo hi [] (c ∷ []) e ys =
        let (t, top, held, bounded, ws) = ys.0.1 in
        let (w, q) = each_append count (entries_of h t) [] ws tt in (
          ((lo, t) ∷ [], refl, ap (◌∷ []) (sym top), held a∷ a[], last refl (ltb→lt _ _ ys.0.0) bounded, w),
          λ i. omega (arith, q i),
        )
    children-to lo hi [] (c ∷ d ∷ cs) e ys = absurd (omega arith)
    children-to lo hi (k ∷ ks) (c ∷ cs) e ys =
        let (t, top, held, bounded, ws) = ys.0.1 in
        let (z, r) = children-to (suc k) hi ks cs (omega arith) ys.1 in
        let (ps, edges, numbers, helds, beside, us) = z in
        let (w, q) = each_append count (entries_of h t) (entries ps) ws us in (
          (
            (lo, t) ∷ ps,
            ap (suc k ∷◌) edges ∙ sym (first_edge beside),
            cc,
            held a∷ helds,
            next (suc k) refl (ltb→lt _ _ ys.0.0) bounded beside,
            w,
          ),
          λ i. omega (arith, q i, r i),
        )

    children-from : (lo hi : ℕ) (ks : List ℕ) (ps : List (ℕ × Tree h)) → map suc ks ≡ map (λ p. p.0) (drop 1 ps)
        → All (λ p. Holds nodes h p.1) ps → Between (Bounded h) hi lo ps → (ws : Each W (entries ps))
        → Counting (Each Child (spans lo hi ks (tops ps))) (sum_each child_count (spans lo hi ks (tops ps))) (both ps ws)
    unfolding spans
    children-from lo hi [] [] e helds b ws = elim b [ ]
    children-from lo hi (k ∷ ks) [] e helds b ws = elim b [ ]
    children-from lo hi [] (p ∷ []) e (held a∷ a[]) (last q lt b) ws =
        let (w, r) = each-split count (entries_of h p.1) [] ws in
        (((lt→ltb _ _ lt, (p.1, refl, held, b, w.0)), tt), λ i. omega (arith, r i))
    children-from lo hi (k ∷ ks) (p ∷ []) e helds (last q lt b) ws = let z : ◌≡◌ {A = ℕ} 0 1 = cc in absurd (omega arith)
    children-from lo hi [] (p ∷ ps) e helds (next edge q lt b rest) ws =
        let f = first_edge rest in let z : ◌≡◌ {A = ℕ} 0 1 = cc in absurd (omega arith)
    children-from lo hi (k ∷ ks) (p ∷ ps) e (held a∷ helds) (next edge q lt b rest) ws =
        let f : suc k ∷ map suc ks ≡ edge ∷ map (λ p. p.0) (drop 1 ps) = e ∙ first_edge rest in
        let g : edge ≡ suc k = cc in
        let (w, r) = each-split count (entries_of h p.1) (entries ps) ws in
        let (ys, s) = children-from (suc k) hi ks ps (cc) helds (subst (λ (x : ℕ). Between (Bounded h) hi x ps) g rest) w.1 in
        let bounded : Bounded h lo (suc k) p.1 = subst (λ (x : ℕ). Bounded h lo x p.1) g b in
        (((lt→ltb lo (suc k) (omega arith), (p.1, refl, held, bounded, w.0)), ys), λ i. omega (arith, r i, s i))

  -- ---- nodes: what is asked of a leaf and of an internode, once the node was not seen before

  abbrev entries_in : ℕ → List (Key × Ref)
  entries_in n = map seen_as (entries_at nodes n)

  abbrev OfLeaf : (lo hi n : ℕ) → Type 0
  OfLeaf lo hi n = Unit {0} × (T (leaf_right nodes n) × Each (Entry lo hi) (entries_in n))

  abbrev leaf_count : (lo hi n : ℕ) → OfLeaf lo hi n → ℕ → ℕ
  leaf_count lo hi n y i = once (node_no n) i + sum_each (entry_count lo hi) (entries_in n) y.1.1 i

  leaf-from : (lo hi n : ℕ) (z : Found zero lo hi n) → Counting (OfLeaf lo hi n) (leaf_count lo hi n) (found zero lo hi n z)
  leaf-from lo hi n (t, top, held, bounded, ws) =
      let found_in : ℕ → ℕ = sum_each count t.1 ws in
      let Read : List (Key × Ref) → Type 0 = λ xs. Counting (Each (Entry lo hi) xs) (sum_each (entry_count lo hi) xs) found_in in
      let (ys, q) = subst Read (sym held.1) (entries_from lo hi t.1 bounded ws) in
      subst (λ (n : ℕ). Counting (OfLeaf lo hi n) (leaf_count lo hi n) (λ i. once (node_no t.0) i + found_in i)) top
      ((tt, (held.0, ys)), λ i. omega (arith, q i))

  abbrev OfInternode : (h lo hi n : ℕ) → Type 0
  OfInternode h lo hi n = Unit {0} × (T (internode_right nodes n) × Children h lo hi (ikeys_at nodes n) (children_at nodes n))

  abbrev internode_count : (h lo hi n : ℕ) → OfInternode h lo hi n → ℕ → ℕ
  internode_count h lo hi n y i = once (node_no n) i + children_count h lo hi (ikeys_at nodes n) (children_at nodes n) y.1.1 i

  internode-from : (h lo hi n : ℕ) (z : Found (suc h) lo hi n)
      → Counting (OfInternode h lo hi n) (internode_count h lo hi n) (found (suc h) lo hi n z)
  internode-from h lo hi n (t, top, held, bounded, ws) =
      subst (λ (n : ℕ). Counting (OfInternode h lo hi n) (internode_count h lo hi n)
      (λ i. once (node_no t.0) i + total (λ p. nodes_of h p.1 i) t.1 + sum_each count (entries h t.1) ws i)) top
      ((tt, (held.0, (t.1, held.1, held.2, held.3, bounded, ws))), λ i. omega arith)

  module _ (N : ℕ) (whole : length nodes ≡ 2 + N * 47) (ref : Key → Ref → Step)
      (ref-decides : (k : Key) (r : Ref) → Decides (ref k r) (W (k, r)) (count (k, r))) where
    entry-decides : (lo hi : ℕ) (e : Key × Ref) → Decides (walk_entry ref lo hi e) (Entry lo hi e) (entry_count lo hi e)
    unfolding walk_entry
    entry-decides lo hi e = when-decides (within lo hi e) (λ _. ref-decides e.0 e.1)

    children-decides : (h lo hi : ℕ) (ks cs : List ℕ) → length cs ≡ suc (length ks)
        → ((lo hi n : ℕ) → Decides (walk_node ref nodes h lo hi n) (Found h lo hi n) (found h lo hi n))
        → Decides (each (walk_span (walk_node ref nodes h)) (spans lo hi ks cs)) (Children h lo hi ks cs) (children_count h lo hi ks cs)
    unfolding walk_span
    children-decides h lo hi ks cs fit below =
        in_words (each-decides (λ s. when-decides (ltb s.0 s.1) (λ _. below s.0 s.1 s.2)) (spans lo hi ks cs))
        (children-to h lo hi ks cs fit)
        (λ (ps, edges, numbers, helds, beside, ws).
        let Read : List ℕ → Type 0 = λ cs.
        let ss = spans lo hi ks cs in Counting (Each (Child h) ss) (sum_each (child_count h) ss) (both h ps ws) in
        subst Read (sym numbers) (children-from h lo hi ks ps edges helds beside ws))

    -- a node of this height
    pub node-decides : (h lo hi n : ℕ) → Decides (walk_node ref nodes h lo hi n) (Found h lo hi n) (found h lo hi n)
    unfolding walk_node walk_leaf walk_internode
    node-decides zero lo hi n =
        in_words
        (then-decides (see-decides (node_no n))
        (when-decides (leaf_right nodes n) (λ _. each-decides (entry-decides lo hi) (entries_in n))))
        (λ y. let (z, q) = entries-to lo hi (entries_in n) y.1.1 in
        (((n, entries_in n), refl, (y.1.0, refl), z.0, z.1), λ i. omega (arith, q i)))
        (leaf-from lo hi n)
    node-decides (suc h) lo hi n =
        let ks = ikeys_at nodes n in
        let cs = children_at nodes n in
        in_words
        (then-decides (see-decides (node_no n))
        (when-decides (internode_right nodes n)
        (λ right. children-decides h lo hi ks cs (one-child-more nodes N whole n right) (node-decides h))))
        (λ y. let (ps, edges, numbers, helds, beside, ws) = y.1.1 in
        (((n, ps), refl, (y.1.0, edges, numbers, helds), beside, ws), λ i. omega arith))
        (internode-from h lo hi n)
