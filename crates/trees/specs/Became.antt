-- What a change leaves: memory that has the new tree, and all other nodes as they were.
use Rattle.std.specs.Prelude.{◌≡◌, ℕ, ◌+◌, length, drop}
use Rattle.trees.specs.Nodes.{NodeList, node_in}
use Rattle.trees.specs.FreeNumbers.{free_numbers, times_in}

module _ {W C : Type 0} (H : NodeList W → C → Type 0) (N : C → ℕ → ℕ) (rt : C → ℕ) where
  -- Memory m has become b .1, which has t, rooted at b.0. `H` says what it is to have one, `N` how often it reaches a node, `rt` what
  -- its root is; n counts what stood there before. The lowest `cost` free numbers are taken; a node that was neither reached nor free is
  -- as it was; and each number is reached or free as often as before.
  pub record Became (n : ℕ → ℕ) (cost : ℕ) (m : NodeList W) (t : C) (b : ℕ × NodeList W) : Type 0 where
    pub rooted : rt t ≡ b.0
    pub holds : H b.1 t
    pub left : free_numbers 0 b.1 ≡ drop cost (free_numbers 0 m)
    pub same : (j : ℕ) → n j ≡ 0 → times_in (free_numbers 0 m) j ≡ 0 → node_in b.1 j ≡ node_in m j
    pub size : length b.1 ≡ length m
    pub keep : (j : ℕ) → N t j + times_in (free_numbers 0 b.1) j ≡ n j + times_in (free_numbers 0 m) j
