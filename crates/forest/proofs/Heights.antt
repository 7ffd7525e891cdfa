-- A tree's height is found by first children, and a tree that reaches no node twice is less high than there are nodes.
-- Assumes nothing.
use mathlib.Core.Path.{◌≡◌, refl}
use mathlib.Core.Bool.{Bool, true, false, cond}
use mathlib.Core.List.{List, map}
use Prim.Native.Nat.{ℕ, zero, suc, ◌+◌, ◌*◌, ◌≤◌, ◌<◌}
use native.Mathlib.Omega.{arith}
use lib.Dec.{eqb}
use lib.ListN.{length, get_or}
use Rattle.order.specs.Map.{All, ◌a∷◌}
use Rattle.order.specs.Lists.{total}
use Rattle.order.proofs.Sums.{sum_below, sum-plus, sum_less, sum-most, sum-part}
use Rattle.forest.specs.Trees.{Tree, top_of, node_no, once, nodes_of, Holds, Between, last, next, Bounded}
use Rattle.arena.specs.Layout.{kind_at}
use Rattle.forest.specs.Nodes.{children_at}
use Rattle.forest.specs.Walk.{height_at}
use Rattle.forest.proofs.Decides.{once-same}
use Rattle.forest.proofs.Inside.{leaf-kind, internode-kind, leaf-inside, internode-inside}

-- node k is one of the first n
abbrev node_once : ℕ → ℕ → ℕ
node_once k j = once (node_no k) (node_no j)

sum-once : (n k : ℕ) → k < n → 1 ≤ sum_below n (node_once k)
sum-once n k h = omega (arith, sum-part n k (node_once k) h, once-same (node_no k))

-- no height is more than what it was looked for in
pub height-most : (nodes : List ℕ) (most n : ℕ) → height_at nodes most n ≤ most
unfolding height_at
height-most nodes zero n = omega arith
height-most nodes (suc most) n = by (eqb (kind_at nodes n) 2) (height-most nodes most (get_or (children_at nodes n) 0 0))
  where
    by : (b : Bool) {h : ℕ} → h ≤ most → cond b (suc h) 0 ≤ suc most
    by true l = omega arith
    by false l = omega arith

module _ (nodes : List ℕ) where
  -- the first child of an internode
  pub record First (h : ℕ) (ps : List (ℕ × Tree h)) : Type 0 where
    pub child : Tree h
    pub left : ℕ
    pub right : ℕ
    pub held : Holds nodes h child
    pub bounded : Bounded h left right child
    pub on-top : get_or (map (λ p. top_of h p.1) ps) 0 0 ≡ top_of h child
    pub counted : (i : ℕ) → nodes_of h child i ≤ total (λ p. nodes_of h p.1 i) ps

  pub first-child : (h : ℕ) {lo hi : ℕ} {ps : List (ℕ × Tree h)} → Between (Bounded h) hi lo ps
      → All (λ p. Holds nodes h p.1) ps → First h ps
  first-child h {lo} {hi} (last {p = p} q lt b) (held a∷ helds) =
      record { child = p.1; left = lo; right = hi; held = held; bounded = b; on-top = refl; counted = λ i. omega arith }
  first-child h {lo} (next edge {p = p} q lt b rest) (held a∷ helds) =
      record { child = p.1; left = lo; right = edge; held = held; bounded = b; on-top = refl; counted = λ i. omega arith }

  -- the height by first children, given steps enough
  pub height-found : (h most lo hi : ℕ) (t : Tree h) → h ≤ most → Holds nodes h t → Bounded h lo hi t
      → height_at nodes most (top_of h t) ≡ h
  unfolding height_at
  height-found zero zero lo hi t l held b = refl
  height-found zero (suc most) lo hi t l held b = rw (leaf-kind nodes t.0 held.0)
  height-found (suc h) zero lo hi t l held b = absurd (omega arith)
  height-found (suc h) (suc most) lo hi t l held b =
      let f = first-child h b held.3 in
      rw (
        internode-kind nodes t.0 held.0,
        held.2,
        f.on-top,
        height-found h most f.left f.right f.child (omega arith) f.held f.bounded,
      )

  module _ (N : ℕ) (whole : length nodes ≡ 2 + N * 47) where
    -- at least one node at each height
    many-nodes : (h lo hi : ℕ) (t : Tree h) → Holds nodes h t → Bounded h lo hi t
        → suc h ≤ sum_below N (λ k. nodes_of h t (node_no k))
    many-nodes zero lo hi t held b = sum-once N t.0 (leaf-inside nodes N whole t.0 held.0)
    many-nodes (suc h) lo hi t held b =
        let f = first-child h b held.3 in
        let below : ℕ → ℕ = λ k. total (λ p. nodes_of h p.1 (node_no k)) t.1 in
        omega (
          arith,
          sum-once N t.0 (internode-inside nodes N whole t.0 held.0),
          many-nodes h f.left f.right f.child f.held f.bounded,
          sum_less N (λ k. nodes_of h f.child (node_no k)) below (λ k. f.counted (node_no k)),
          sum-plus N (node_once t.0) below,
        )

    -- so it is less high than there are nodes
    pub not-high : (h lo hi : ℕ) (t : Tree h) → Holds nodes h t → Bounded h lo hi t → ((i : ℕ) → nodes_of h t i ≤ 1) → h < N
    not-high h lo hi t held b once-each =
        omega (arith, many-nodes h lo hi t held b, sum-most N (λ k. nodes_of h t (node_no k)) (λ k. once-each (node_no k)))
