-- A put into one layer, a new root too: what memory has after it, and what the listing became. Assumes nothing.
use mathlib.Core.Bool.{Bool, true, false, cond}
use mathlib.Core.List.{List, [], ◌∷◌, map, append-nil}
use mathlib.Core.Option.{Option}
use mathlib.Core.Path.{◌≡◌, refl, sym, ap, ◌∙◌, subst}
use Prim.Native.Nat.{ℕ, ◌≤◌, ◌<◌, zero, suc, ◌+◌}
use native.Mathlib.Omega.{arith}
use lib.ListN.{length, drop, length-set, length-drop}
use lib.Seq.{get_or-set_same, get_or-set_other, drop-drop}
use Rattle.order.specs.Lists.{total, flattened}
use Rattle.order.specs.Map.{All, a[], ◌a∷◌, alter}
use Rattle.trees.specs.Nodes.{IkeyClass, layer_order, free, NodeList}
use Rattle.trees.specs.FreeNumbers.{free_numbers, times_in}
use Rattle.trees.specs.Tree.{numbered, LowsAgree, AnyTree, any_root, any_entries, any_reaches, HoldsAny, Abutting, last_child, and_next}
use Rattle.trees.specs.Tree.{low_of_children, TreeOver, internode_of, tree_root, tree_entries, tree_reaches, HoldsTree, WellFormed}
use Rattle.trees.specs.TreePut.{CutsWell, stays_one, with_root, layer_needs, tree_put, split_nodes, any_leaf, leaf_kept}
use Rattle.trees.specs.PutInMemory.{memory_put, memory_with_root, layer_put}
use Rattle.trees.specs.Became.{Became}
use Rattle.trees.proofs.Nodes.{one_at-other}
use Rattle.trees.proofs.FreeNumbers.{lowest-taken}
use Rattle.trees.proofs.TreePut.{tree_put-list, tree_put-well-formed}
use Rattle.trees.proofs.LeafAfter.{layer-leaf}
use Rattle.trees.proofs.PutInMemory.{all-framed, tree-framed, put-in-step}
use Rattle.trees.proofs.NeededInLayer.{tree_put-size, need-is}

module _ (W : Type 0) (top mid : ℕ) (cut : List (IkeyClass × W) → ℕ) (hi : ℕ) where
  -- the first low ikeys, of the rules
  abutting-lows : (d : ℕ) → ((lo h : ℕ) (t : TreeOver W d) → WellFormed W top d lo h t → LowsAgree W d (lo, t))
      → {h lo : ℕ} {ps : List (ℕ × TreeOver W d)} → Abutting (WellFormed W top d) h lo ps
      → (0 < length ps) × (low_of_children ps ≡ lo) × All (LowsAgree W d) ps
  abutting-lows d f (last_child {p = p} e l r) = (omega arith, e, subst (λ x. LowsAgree W d (x, p.1)) (sym e) (f _ _ p.1 r) a∷ a[])
  abutting-lows d f (and_next s {p = p} e l r c) = (
    omega arith,
    e,
    subst (λ x. LowsAgree W d (x, p.1)) (sym e) (f _ _ p.1 r) a∷ (abutting-lows d f c).2,
  )

  pub lows-agree : (d lo h : ℕ) (t : TreeOver W d) → WellFormed W top d lo h t → LowsAgree W d (lo, t)
  lows-agree zero lo h t w = tt
  lows-agree (suc d) lo h t w = abutting-lows d (lows-agree d) w.0

  -- how often children side by side reach node j
  abbrev children_reach : (d : ℕ) → List (ℕ × TreeOver W d) → ℕ → ℕ
  children_reach d ps j = total (λ p. tree_reaches W d p.1 j) ps

  -- memory has become one with this tree, where n counted what stood there before
  abbrev pub TreeBecame : (ℕ → ℕ) → ℕ → NodeList W → AnyTree W → ℕ × NodeList W → Type 0
  TreeBecame = Became (HoldsAny W top hi) (any_reaches W) (any_root W)

  root-became : (d : ℕ) (ps : List (ℕ × TreeOver W d)) (fs : List ℕ) (m : NodeList W) (b : Bool) → 1 ≤ top → length ps ≡ cond b 1 2
      → cond b 0 1 ≤ length fs → free_numbers 0 m ≡ fs
      → Abutting (WellFormed W top d) hi 0 ps → All (λ p. HoldsTree W m d p.1) ps → ((j : ℕ) → children_reach d ps j + times_in fs j ≤ 1)
      → TreeBecame (children_reach d ps) (cond b 0 1) m (with_root W d ps fs) (memory_with_root W (map (numbered (tree_root W d)) ps) m)
      × (any_entries W (with_root W d ps fs) ≡ flattened (λ p. tree_entries W d p.1) ps)
  root-became d [] fs m b tp le en fe c hs o = elim c [ ]
  root-became d (p ∷ []) fs m true tp le en fe (and_next s _ _ _ c) hs o = elim c [ ]
  root-became d (p ∷ []) fs m true tp le en fe (last_child e l r) (h a∷ a[]) o = (
    record { rooted = refl; holds = (r, h); left = refl; size = refl; same = λ j a b. refl; keep = λ j. omega arith },
    sym (append-nil _),
  )
  root-became d (p ∷ []) fs m false tp le en fe c hs o = absurd (omega arith)
  root-became d (p ∷ q ∷ ps) fs m true tp le en fe c hs o = absurd (omega arith)
  root-became d (p ∷ q ∷ ps) [] m false tp le en fe c hs o = absurd (omega arith)
  root-became d (p ∷ q ∷ ps) (r ∷ fs) m false tp le en fe c hs o =
      let x = internode_of (map (numbered (tree_root W d)) (p ∷ q ∷ ps)) in
      let (r<, left) = lowest-taken m r fs x tt fe in
      rw fe (
        record {
          rooted = refl;
          holds = (
            (c, omega arith),
            (
              get_or-set_same m r x free r<,
              all-framed (λ m. HoldsTree W m d) (tree_reaches W d) (tree_root W d) (tree-framed W top mid cut d) m _
                  (λ j g. get_or-set_other m r j x free (one_at-other r j (omega (arith, o j)))) hs,
            ),
          );
          left = rw fe left;
          size = length-set m r x;
          same = λ j a b. get_or-set_other m r j x free (one_at-other r j (let y : times_in (r ∷ fs) j ≡ 0 = rw fe at b in omega arith));
          keep = λ j. rw (left, fe) (omega arith);
        },
        refl,
      )

  module _ (cut_ok : CutsWell W top mid cut) (mid-lo : 1 ≤ mid) (mid-hi : mid ≤ suc top) (tp : 1 ≤ top) where
    -- and what the leaf to which the ikey of k leads has then
    pub layer_put-leaf : (m : NodeList W) (t : AnyTree W) (k : IkeyClass) (f : Option W → Option W) → k.0 < hi → k.1 ≤ 9
        → HoldsAny W top hi m t → ((j : ℕ) → any_reaches W t j + times_in (free_numbers 0 m) j ≤ 1)
        → layer_needs W top mid cut k f t ≤ length (free_numbers 0 m)
        → (u : AnyTree W) × TreeBecame (any_reaches W t) (layer_needs W top mid cut k f t) m u
        (layer_put W top mid cut t.0 k f (any_root W t) m) × (any_entries W u ≡ alter layer_order k f (any_entries W t))
        × (any_leaf W k.0 u ≡ leaf_kept W top cut k.0 (alter layer_order k f (any_leaf W k.0 t)))
    layer_put-leaf m t k f kh kc H once en =
        let d = t.0 in
        let fs = free_numbers 0 m in
        let a = tree_put W top mid cut d k f (0, t.1) fs in
        let b = memory_put W top mid cut d k f (0, tree_root W d t.1) m in
        let wh = stays_one W top mid cut d k f (0, t.1) fs in
        let sp = split_nodes W top mid cut d k f (0, t.1) fs in
        let ne : layer_needs W top mid cut k f t ≡ sp + cond wh 0 1 = need-is W top mid cut k f fs d 1 (0, t.1) 0 hi H.0 in
        let D = put-in-step W top mid cut k f fs m refl d (0, t.1) (omega arith) (lows-agree d 0 hi t.1 H.0) H.1 once in
        let G = root-became d a.0 a.1 b.1 wh tp (tree_put-size W top mid cut k f fs d (0, t.1))
        (omega (arith, ap length D.spent, length-drop sp fs)) D.left
        (tree_put-well-formed W top mid cut cut_ok mid-lo mid-hi k kc f fs d 0 hi (0, t.1) refl (omega arith) kh (omega arith) H.0)
        D.holds
        (λ j. omega (arith, D.keep j, once j)) in (
          with_root W d a.0 a.1,
          rw D.nums (record {
            rooted = G.0.rooted;
            holds = G.0.holds;
            left = G.0.left ∙ ap (drop (cond wh 0 1)) (D.left ∙ D.spent) ∙ drop-drop (cond wh 0 1) sp fs ∙ ap (λ n. drop n fs) (sym ne);
            size = G.0.size ∙ D.size;
            same = λ j x y. G.0.same j (omega (arith, D.keep j)) (omega (arith, D.keep j, ap (λ l. times_in l j) D.left))
                ∙ D.same j x y;
            keep = λ j. omega (arith, G.0.keep j, D.keep j, ap (λ l. times_in l j) D.left);
          }),
          G.1 ∙ tree_put-list W top mid cut k f fs d 0 hi (0, t.1) refl (omega arith) kh (omega arith) H.0,
          layer-leaf W top mid cut cut_ok mid-lo mid-hi k kc f fs d hi t.1 kh H.0,
        )

    pub layer_put-became : (m : NodeList W) (t : AnyTree W) (k : IkeyClass) (f : Option W → Option W) → k.0 < hi → k.1 ≤ 9
        → HoldsAny W top hi m t → ((j : ℕ) → any_reaches W t j + times_in (free_numbers 0 m) j ≤ 1)
        → layer_needs W top mid cut k f t ≤ length (free_numbers 0 m)
        → (u : AnyTree W) × TreeBecame (any_reaches W t) (layer_needs W top mid cut k f t) m u
        (layer_put W top mid cut t.0 k f (any_root W t) m) × (any_entries W u ≡ alter layer_order k f (any_entries W t))
    layer_put-became m t k f kh kc H once en = let (u, D, E, L) = layer_put-leaf m t k f kh kc H once en in (u, D, E)
