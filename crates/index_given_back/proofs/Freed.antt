-- A node of lent memory freed: it is seen as free, and every other node is as it was. Assumes nothing.
use mathlib.Core.Logic.{⊎_elim, inl, inr}
use mathlib.Core.List.{List}
use Prim.Native.Nat.{ℕ, zero, suc, ◌+◌, ◌≤◌, ◌<◌}
use native.Mathlib.Omega.{arith}
use lib.Dec.{T}
use lib.ListN.{length}
use Rattle.leaf.specs.Lists.{every}
use Rattle.arena.specs.Parts.{zeros}
use Rattle.arena.specs.Layout.{node_start, free_words, freed_node}
use Rattle.arena.proofs.Words.{put-out}
use Rattle.arena.proofs.Nodes.{free-length, nodes-apart, node-freed, kind-stored, head-kept, nodes-length}
use Rattle.forest.specs.Nodes.{all_zero, node_free}
use Rattle.trees.specs.Nodes.{free}
use Rattle.growth.proofs.Frames.{sound-free, view-free}
use Rattle.growth.proofs.Memory.{Nodes, node-fits, Wrote, wrote}

zeros-zero : (n : ℕ) → T (all_zero (zeros n))
unfolding every
zeros-zero zero = tt
zeros-zero (suc n) = zeros-zero n

module _ (nodes : List ℕ) (n : ℕ) (N : Nodes nodes n) (k : ℕ) (h : k < n) where
  fits : node_start k + 47 ≤ length nodes
  fits = node-fits nodes n N k h

  here-free : T (node_free (freed_node nodes k) k)
  unfolding node_free
  here-free = rw (node-freed nodes k fits) (zeros-zero 47)

  pub node-given : Wrote nodes (freed_node nodes k) n k free
  node-given =
      wrote nodes (freed_node nodes k) n N k h free (nodes-length nodes k fits free_words free-length)
      (head-kept nodes k fits free_words free-length)
      (λ j ne i b. put-out nodes (node_start k) free_words (rw free-length fits) (node_start j + i)
      (rw free-length (⊎_elim (λ p. inl (omega arith)) (λ p. inr (omega arith)) (nodes-apart j k ne))))
      (sound-free (freed_node nodes k) k here-free) (view-free (freed_node nodes k) k (kind-stored nodes k fits free_words free-length))
