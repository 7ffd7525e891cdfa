-- What is in use lies inside lent memory: past its end every word reads 0. Assumes nothing.
use mathlib.Core.Path.{◌≡◌}
use mathlib.Core.List.{List}
use mathlib.Core.Logic.{⊎_elim}
use Prim.Native.Nat.{ℕ, suc, ◌+◌, ◌*◌, ◌≤◌, ◌<◌}
use native.Mathlib.Omega.{arith}
use lib.Dec.{T, eqb, leb, eqb→eq, leb→le}
use lib.ListN.{length, get_or-eq_default}
use Rattle.bank.proofs.Tests.{and_left, and_right}
use Rattle.arena.specs.Layout.{node_start, kind_at, mark_at, cell_start}
use Rattle.arena.proofs.Words.{lt-or-ge, part_length}
use Rattle.forest.specs.Nodes.{leaf_right, internode_right, ikeys_at, children_at, count_at}
use Rattle.forest.specs.Cells.{cell_right, filed}

pub leaf-kind : (nodes : List ℕ) (k : ℕ) → T (leaf_right nodes k) → kind_at nodes k ≡ 1
unfolding leaf_right
leaf-kind nodes k t = eqb→eq _ _ (and_left (eqb (kind_at nodes k) 1) _ t)

pub internode-kind : (nodes : List ℕ) (k : ℕ) → T (internode_right nodes k) → kind_at nodes k ≡ 2
unfolding internode_right
internode-kind nodes k t = eqb→eq _ _ (and_left (eqb (kind_at nodes k) 2) _ t)

module _ (nodes : List ℕ) (N : ℕ) (whole : length nodes ≡ 2 + N * 47) where
  in_use : (k : ℕ) → (kind_at nodes k ≡ 0 → ⊥) → k < N
  in_use k used =
      ⊎_elim (λ h. h) (λ h. absurd (used (get_or-eq_default nodes 0 (omega arith)))) (lt-or-ge k N)

  pub leaf-inside : (k : ℕ) → T (leaf_right nodes k) → k < N
  leaf-inside k t = in_use k (λ e. omega (arith, leaf-kind nodes k t))

  pub internode-inside : (k : ℕ) → T (internode_right nodes k) → k < N
  internode-inside k t = in_use k (λ e. omega (arith, internode-kind nodes k t))

  -- an internode has one child more than ikeys
  pub one-child-more : (k : ℕ) → T (internode_right nodes k) → length (children_at nodes k) ≡ suc (length (ikeys_at nodes k))
  unfolding internode_right ikeys_at children_at
  one-child-more k t =
      let n = count_at nodes k in
      let few : n ≤ 15 = leb→le _ _ (and_left (leb n 15) _ (and_right (eqb (kind_at nodes k) 2) _ t)) in
      let inside : k < N = internode-inside k t in
      omega (arith, part_length nodes (node_start k + 17) (n + 1) (omega arith), part_length nodes (node_start k + 2) n (omega arith))

pub filed-inside : (cells bytes above : List ℕ) (ikey class c C : ℕ) → length cells ≡ C * 2
    → T (filed cells bytes above ikey class c) → c < C
unfolding filed cell_right
filed-inside cells bytes above ikey class c C whole t =
    let marked : 1 ≤ mark_at cells c = leb→le _ _ (and_left (leb 1 (mark_at cells c)) _ (and_left (cell_right cells bytes c) _ t)) in
    ⊎_elim (λ h. h) (λ h. absurd (omega (arith, get_or-eq_default cells 0 {n = cell_start c} (omega arith))))
    (lt-or-ge c C)
