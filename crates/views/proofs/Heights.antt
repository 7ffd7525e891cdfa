-- Heights by first children: of memory and of its view, with steps enough. Assumes nothing.
use mathlib.Core.Path.{◌≡◌, refl, sym, ap, ◌∙◌, subst}
use mathlib.Core.Logic.{⊎_elim}
use mathlib.Core.List.{List}
use Prim.Native.Nat.{ℕ, zero, suc, ◌+◌, ◌*◌, ◌≤◌, ◌<◌}
use native.Mathlib.Omega.{arith}
use native.Mathlib.Decide.{ℕ_discrete}
use lib.ListN.{length, get_or, get_or-eq_default}
use borrow.Author.Tests.{eq-eqb, ne_eqb}
use Rattle.arena.specs.Layout.{node_start, kind_at}
use Rattle.arena.specs.Memory.{Memory}
use Rattle.arena.proofs.Words.{lt-or-ge}
use Rattle.forest.specs.Nodes.{children_at}
use Rattle.forest.specs.Trees.{Tree, top_of, node_no, nodes_of, Holds, Bounded}
use Rattle.forest.specs.Layers.{root_of}
use Rattle.forest.specs.IsTree.{Layers, Forest}
use Rattle.forest.specs.Walk.{height_at}
use Rattle.forest.proofs.Heights.{height-found, not-high}
use Rattle.trees.specs.Nodes.{IkeyClass, free, leaf, internode, NodeList, node_in}
use Rattle.trees.specs.Tree.{AnyTree, any_root, any_reaches, HoldsAny}
use Rattle.trees.specs.FindInMemory.{height_from}
use Rattle.trees.specs.Layers.{Pointer}
use Rattle.trees.proofs.FindInTree.{height_from-is}
use Rattle.trees.proofs.OneLayer.{lows-agree}
use Rattle.trees.proofs.Depth.{height-below-length}
use Rattle.views.specs.Views.{nodes_view, layer_view}
use Rattle.views.proofs.Nodes.{nodes_in, nodes-long, node-at, node-beyond, inner-view, leaf-view, other-view}
use Rattle.views.proofs.TreeViews.{root-view, count-view}
use Rattle.views.proofs.LayerViews.{right_edge, layer-view}
use Rattle.views.proofs.Whole.{lengths}

-- ---- one step, of memory and of its view

module _ (nodes : List ℕ) (steps k : ℕ) where
  height-internode : kind_at nodes k ≡ 2 → height_at nodes (suc steps) k ≡ suc (height_at nodes steps (get_or (children_at nodes k) 0 0))
  unfolding height_at
  height-internode e = rw (eq-eqb (kind_at nodes k) 2 e)

  height-none : (kind_at nodes k ≡ 2 → ⊥) → height_at nodes (suc steps) k ≡ 0
  unfolding height_at
  height-none ne = rw (ne_eqb (kind_at nodes k) 2 ne)

module _ {W : Type 0} (m : NodeList W) (steps k : ℕ) where
  high-inner : {ks cs : List ℕ} → node_in m k ≡ internode ks cs → height_from (suc steps) m k ≡ suc (height_from steps m (get_or cs 0 0))
  high-inner e = rw e

  high-leaf : {es : List (IkeyClass × W)} → node_in m k ≡ leaf es → height_from (suc steps) m k ≡ 0
  high-leaf e = rw e

  high-free : node_in m k ≡ free → height_from (suc steps) m k ≡ 0
  high-free e = rw e

module _ (m : Memory) (whole : length m.nodes ≡ 2 + nodes_in m * 47) where
  high-none : (steps k : ℕ) → (kind_at m.nodes k ≡ 2 → ⊥) → height_from (suc steps) (nodes_view m) k ≡ 0
  high-none steps k two =
      ⊎_elim (λ h. go (ℕ_discrete (kind_at m.nodes k) 1) h) (λ h. high-free (nodes_view m) steps k (node-beyond m k h))
      (lt-or-ge k (nodes_in m))
    where
      go : Dec (kind_at m.nodes k ≡ 1) → k < nodes_in m → height_from (suc steps) (nodes_view m) k ≡ 0
      go (yes one) h = high-leaf (nodes_view m) steps k (node-at m k h ∙ leaf-view m.nodes k one)
      go (no one) h = high-free (nodes_view m) steps k (node-at m k h ∙ other-view m.nodes k one two)

  internode-in : (k : ℕ) → kind_at m.nodes k ≡ 2 → k < nodes_in m
  internode-in k e =
      ⊎_elim (λ h. h) (λ h. absurd (omega (arith, get_or-eq_default m.nodes 0 {n = node_start k} (omega arith))))
      (lt-or-ge k (nodes_in m))

  -- the same at each number, whatever stands there
  pub height-same : (steps k : ℕ) → height_at m.nodes steps k ≡ height_from steps (nodes_view m) k
  unfolding height_at
  height-same zero k = refl
  height-same (suc steps) k = go (ℕ_discrete (kind_at m.nodes k) 2) (height-same steps (get_or (children_at m.nodes k) 0 0))
    where
      first : ℕ
      first = get_or (children_at m.nodes k) 0 0

      go : Dec (kind_at m.nodes k ≡ 2) → height_at m.nodes steps first ≡ height_from steps (nodes_view m) first
          → height_at m.nodes (suc steps) k ≡ height_from (suc steps) (nodes_view m) k
      go (yes e) ih =
          height-internode m.nodes steps k e ∙ ap suc ih
          ∙ sym (high-inner (nodes_view m) steps k (node-at m k (internode-in k e) ∙ inner-view m.nodes k e))
      go (no ne) ih = height-none m.nodes steps k ne ∙ sym (high-none steps k ne)

  module _ (few : nodes_in m ≤ 255) where
    -- the root of a tree that memory has, no node twice
    pub tree-height : (h lo hi : ℕ) (t : Tree h) → Holds m.nodes h t → Bounded h lo hi t → ((i : ℕ) → nodes_of h t i ≤ 1)
        → height_at m.nodes 255 (top_of h t) ≡ h
    tree-height h lo hi t held b once-each =
        let less : h < nodes_in m = not-high m.nodes (nodes_in m) whole h lo hi t held b once-each in
        height-found m.nodes h 255 lo hi t (omega arith) held b

    -- the root of a tree that the view has, no node twice
    pub root-height : (t : AnyTree Pointer) → HoldsAny Pointer 15 right_edge (nodes_view m) t → ((j : ℕ) → any_reaches Pointer t j ≤ 1)
        → height_at m.nodes 255 (any_root Pointer t) ≡ height_from (length (nodes_view m)) (nodes_view m) (any_root Pointer t)
    root-height t has once-each =
        let d = t.0 in
        let low = lows-agree Pointer 15 0 (λ e. 0) right_edge d 0 right_edge t.1 has.0 in
        let deep : d < length (nodes_view m) = height-below-length Pointer 15 (nodes_view m) d 0 t.1 has.1 low once-each in
        height-same 255 (any_root Pointer t)
        ∙ height_from-is Pointer 15 (nodes_view m) d 255 (omega (arith, nodes-long m)) 0 t.1 has.1 low
        ∙ sym (height_from-is Pointer 15 (nodes_view m) d (length (nodes_view m)) deep 0 t.1 has.1 low)

-- the root of the whole
pub height-view : (m : Memory) (v : Layers) → Forest m v
    → height_at m.nodes 255 (root_of v) ≡ height_from (length (nodes_view m)) (nodes_view m) (root_of v)
height-view m v t =
    let right = lengths m t.lent in
    let root = root-view v.0.0 v.0.1 in
    subst (λ (r : ℕ). height_at m.nodes 255 r ≡ height_from (length (nodes_view m)) (nodes_view m) r) root
    (root-height m right.nodes-whole right.n-high (layer_view 31 v).0
    (layer-view m right.nodes-whole 31 v t.held t.in-edges).0
    (λ j. omega (arith, count-view v.0.0 v.0.1 j, t.at-most-once (node_no j))))
