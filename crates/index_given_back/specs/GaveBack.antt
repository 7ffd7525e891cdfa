-- What giving empty layers back leaves of memory that is a tree.
use Rattle.std.specs.Prelude.{ℕ, zero, suc, ◌+◌, ◌≡◌, cond, List, [], ◌∷◌}
use Rattle.arena.specs.Free.{free_nodes}
use Rattle.arena.specs.Memory.{Memory}
use Rattle.forest.specs.IsTree.{Layers, IsTree, listing}
use Rattle.model.specs.declared.Met.{Met}
use Rattle.model.specs.declared.Met.TheVariants.{Stored, Conflict, Missing}
use Rattle.model.specs.GivenBack.{to_give_back, given_back}
use Rattle.model.specs.Calls.{nodes_of, place}
use Rattle.trees.specs.FreeNumbers.{times_in}

-- the root of the layer where a key is missing
abbrev pub missing_in : Met → ℕ
missing_in (Stored leaf position cell) = 0
missing_in (Conflict leaf position cell links) = 0
missing_in (Missing holder root links) = root

-- the nodes that so many steps give back, in turn: each time the root of the layer where the key is missing
unfoldable pub nodes_back : ℕ → Memory → List ℕ → List ℕ
nodes_back zero m key = []
nodes_back (suc steps) m key =
    cond (to_give_back m.nodes key (place m key))
    (missing_in (place m key) ∷ nodes_back steps (given_back m key (place m key)) key)
    []

-- Memory m, which is the tree v, has become a tree that lists the same. As many nodes are lent; these ones are free beside those that were
-- free before, and no other; the cells are as they were.
pub record GaveBack (m : Memory) (v : Layers) (ns : List ℕ) (after : Memory) : Type 0 where
  pub tree : Layers
  pub is-tree : IsTree after tree
  pub same-listing : listing after tree ≡ listing m v
  pub as_many : nodes_of after ≡ nodes_of m
  pub freed : (n : ℕ) → times_in (free_nodes after.nodes (nodes_of m)) n ≡ times_in (free_nodes m.nodes (nodes_of m)) n + times_in ns n
  pub same-cells : after.cells ≡ m.cells
  pub same_bytes : after.bytes ≡ m.bytes
