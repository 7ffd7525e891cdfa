-- A tree whose nodes are reached once is no higher than there are nodes. Assumes nothing.
use mathlib.Core.List.{List, [], ◌∷◌}
use mathlib.Core.Path.{◌≡◌, refl}
use Prim.Native.Nat.{ℕ, ◌≤◌, ◌<◌, zero, suc, ◌+◌}
use native.Mathlib.Decide.{ℕ_discrete}
use native.Mathlib.Omega.{arith}
use lib.Arith.{lt_of_le-ne}
use lib.ListN.{length}
use Rattle.order.specs.Lists.{total}
use Rattle.order.proofs.Sums.{sum_below, sum-plus, sum-most, sum-part}
use Rattle.order.specs.Map.{All, ◌a∷◌}
use Rattle.trees.specs.Nodes.{NodeList, one_at}
use Rattle.trees.specs.Tree.{LowsAgree, TreeOver, tree_reaches, HoldsTree}
use Rattle.trees.proofs.Nodes.{one_at-same}
use Rattle.trees.proofs.FreeNumbers.{in-use-inside}

sum-hit : (n k : ℕ) → k < n → 1 ≤ sum_below n (one_at k)
sum-hit n k h = omega (arith, sum-part n k (one_at k) h, one_at-same k)

module _ (W : Type 0) (top : ℕ) (m : NodeList W) where
  sum-tree : (d lo : ℕ) (t : TreeOver W d) → HoldsTree W m d t → LowsAgree W d (lo, t) → suc d ≤ sum_below (length m) (tree_reaches W d t)
  sum-tree zero lo t h l = sum-hit (length m) t.0 (in-use-inside m t.0 (rw h tt))
  sum-tree (suc d) lo t h l = go t.1 h.1 l.0 l.2 (λ lo u. sum-tree d lo u)
    where
      go : (ps : List (ℕ × TreeOver W d)) → All (λ p. HoldsTree W m d p.1) ps → 0 < length ps → All (LowsAgree W d) ps
          → ((lo : ℕ) (u : TreeOver W d) → HoldsTree W m d u → LowsAgree W d (lo, u) → suc d ≤ sum_below (length m) (tree_reaches W d u))
          → suc (suc d) ≤ sum_below (length m) (λ j. one_at t.0 j + total (λ p. tree_reaches W d p.1 j) ps)
      go [] g z w f = absurd (omega arith)
      go (p ∷ ps) (g a∷ gs) z (w a∷ ws) f =
          omega (
            arith,
            sum-plus (length m) (one_at t.0) (λ j. tree_reaches W d p.1 j + total (λ p. tree_reaches W d p.1 j) ps),
            sum-plus (length m) (tree_reaches W d p.1) (λ j. total (λ p. tree_reaches W d p.1 j) ps),
            sum-hit (length m) t.0 (in-use-inside m t.0 (rw h.0 tt)),
            f p.0 p.1 g w,
          )

  pub height-below-length : (d lo : ℕ) (t : TreeOver W d) → HoldsTree W m d t → LowsAgree W d (lo, t)
      → ((j : ℕ) → tree_reaches W d t j ≤ 1) → d < length m
  height-below-length d lo t h l u = omega (arith, sum-tree d lo t h l, sum-most (length m) (tree_reaches W d t) u)
