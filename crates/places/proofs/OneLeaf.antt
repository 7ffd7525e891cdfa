-- The trees' change of one leaf, where the leaf stays one: memory is as it was but for that leaf. Assumes nothing.
use mathlib.Core.Path.{◌≡◌, refl, ap, ◌∙◌}
use mathlib.Core.Logic.{◌≢◌}
use mathlib.Core.List.{List, [], ◌∷◌, map}
use mathlib.Core.Option.{Option}
use Prim.Native.Nat.{ℕ, zero, suc, ◌≤◌}
use native.Mathlib.Omega.{arith}
use lib.ListN.{length, set, length-map}
use lib.Seq.{get_or-set_other, set-get_or}
use Rattle.order.specs.Map.{All, ◌a∷◌, alter}
use Rattle.trees.specs.Nodes.{IkeyClass, layer_order, free, leaf, NodeList, node_in, one_at, leaf_entries, children_of}
use Rattle.trees.specs.Tree.{numbered, LowsAgree, Abutting, last_child, and_next, TreeOver, internode_of, tree_root, tree_reaches, HoldsTree}
use Rattle.trees.specs.Tree.{WellFormed}
use Rattle.trees.specs.TreePut.{before_next, through_child}
use Rattle.trees.specs.PutInMemory.{memory_put}
use Rattle.trees.specs.Layers.{Pointer}
use Rattle.trees.proofs.Nodes.{one_at-same}
use Rattle.trees.proofs.PutInMemory.{children-of-internode}
use Rattle.trees.proofs.NeededInLayer.{leb-is}
use Rattle.order.specs.Lists.{total}
use Rattle.places.proofs.Down.{Picked, here, later, Leads, lead-counted}

-- a child that stays where it is
module _ {C S : Type 0} (rt : C → ℕ) (go : ℕ × ℕ → S → List (ℕ × ℕ) × S) (x : ℕ) (m s : S) where
  before-map : (ps : List (ℕ × C)) → before_next x (map (numbered rt) ps) ≡ before_next x ps
  before-map [] = refl
  before-map (p ∷ ps) = refl

  pub descend-stays : {ps : List (ℕ × C)} → Picked x (λ p. go (numbered rt p) m ≡ (numbered rt p ∷ [], s)) ps
      → through_child go x (map (numbered rt) ps) m ≡ (map (numbered rt) ps, s)
  descend-stays (here {p = p} {ps = ps} q e) = rw (before-map ps, q, e)
  descend-stays (later {p = p} {ps = ps} q l) = rw (before-map ps, q, descend-stays l)

module _ (M : NodeList Pointer) (top mid : ℕ) (cut : List (IkeyClass × Pointer) → ℕ) (k : IkeyClass) (f : Option Pointer → Option Pointer)
    (n : ℕ)
    (short : length (alter layer_order k f (leaf_entries (node_in M n))) ≤ top) where
  -- the leaf with its entries changed
  abbrev pub changed_at : NodeList Pointer
  changed_at = set M n (leaf (alter layer_order k f (leaf_entries (node_in M n))))

  pub put-stays : (d lo hi : ℕ) (p : ℕ × TreeOver Pointer d) → WellFormed Pointer top d lo hi p.1 → LowsAgree Pointer d p
      → HoldsTree Pointer M d p.1 → ((j : ℕ) → tree_reaches Pointer d p.1 j ≤ 1)
      → Leads k.0 d p.1 n → memory_put Pointer top mid cut d k f (numbered (tree_root Pointer d) p) M
      ≡ (numbered (tree_root Pointer d) p ∷ [], changed_at)
  put-stays zero lo hi p w low h u l = rw (l, leb-is (length (alter layer_order k f (leaf_entries (node_in M n)))) top short)
  put-stays (suc d) lo hi p w low h u l =
      let ps = p.1.1 in
      let ke : children_of p.0 (node_in M p.1.0) ≡ map (numbered (tree_root Pointer d)) ps =
      ap (children_of p.0) h.0 ∙ children-of-internode Pointer top 0 (λ e. 0) p.0 d ps low.0 low.1 in
      let de = descend-stays (tree_root Pointer d) (memory_put Pointer top mid cut d k f) k.0 M changed_at
      (go w.0 low.2 h.1 (λ j. omega (arith, u j)) l (put-stays d)) in
      let other : p.1.0 ≢ n = λ e. omega (arith, u n, inside l, ap (λ (i : ℕ). one_at i n) e, one_at-same n) in
      let kept : node_in changed_at p.1.0 ≡ internode_of (map (numbered (tree_root Pointer d)) ps) =
      get_or-set_other M n p.1.0 _ free other ∙ h.0 in
      rw (
        ke,
        de,
        leb-is (length (map (numbered (tree_root Pointer d)) ps)) (suc top)
            (omega (arith, length-map ps (numbered (tree_root Pointer d)), w.1)),
        ← kept,
      )
      (ap (λ (s : NodeList Pointer). (numbered (tree_root Pointer (suc d)) p ∷ [], s)) (set-get_or changed_at p.1.0 free))
    where
      inside : {ps : List (ℕ × TreeOver Pointer d)} → Picked k.0 (λ p. Leads k.0 d p.1 n) ps
          → 1 ≤ total (λ p. tree_reaches Pointer d p.1 n) ps
      inside (here {p = p} q l) = omega (arith, lead-counted M top k.0 d n p.1 l)
      inside (later q l) = omega (arith, inside l)

      go : {hi lo : ℕ} {ps : List (ℕ × TreeOver Pointer d)} → Abutting (WellFormed Pointer top d) hi lo ps → All (LowsAgree Pointer d) ps
          → All (λ p. HoldsTree Pointer M d p.1) ps
          → ((j : ℕ) → total (λ p. tree_reaches Pointer d p.1 j) ps ≤ 1) → Picked k.0 (λ p. Leads k.0 d p.1 n) ps
          → ((lo hi : ℕ) (p : ℕ × TreeOver Pointer d) → WellFormed Pointer top d lo hi p.1 → LowsAgree Pointer d p
          → HoldsTree Pointer M d p.1 → ((j : ℕ) → tree_reaches Pointer d p.1 j ≤ 1)
          → Leads k.0 d p.1 n → memory_put Pointer top mid cut d k f (numbered (tree_root Pointer d) p) M
          ≡ (numbered (tree_root Pointer d) p ∷ [], changed_at))
          → Picked k.0 (λ p. memory_put Pointer top mid cut d k f (numbered (tree_root Pointer d) p) M
          ≡ (numbered (tree_root Pointer d) p ∷ [], changed_at)) ps
      go (last_child {p = p} a b r) (w a∷ ws) (h a∷ hs) u (here q l) f = here q (f _ _ p r w h (λ j. omega (arith, u j)) l)
      go (last_child {p = p} a b r) (w a∷ ws) (h a∷ hs) u (later q l) f = let z : ◌≡◌ {A = ℕ} 0 1 = cc in absurd (omega arith)
      go (and_next s {p = p} a b r c) (w a∷ ws) (h a∷ hs) u (here q l) f = here q (f _ _ p r w h (λ j. omega (arith, u j)) l)
      go (and_next s {p = p} a b r c) (w a∷ ws) (h a∷ hs) u (later q l) f = later q (go c ws hs (λ j. omega (arith, u j)) l f)
