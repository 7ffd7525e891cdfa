-- An internode of lent memory with a child more: in one node, or in two.
use Rattle.std.specs.Prelude.{ℕ, ◌+◌, cond, List, [], ◌∷◌, ltb}
use Rattle.memory_layout.specs.Numbers.{children_from}
use Rattle.internode_places.specs.declared.Internode as internode
use Rattle.internode.specs.Node.{child_place, inserted}
use Rattle.internode.specs.Split.{node_of, split_of}
use Rattle.lent_nodes.specs.declared.inside.Internode as arena
use Rattle.arena.specs.Parts.{part}
use Rattle.arena.specs.Layout.{node_start, put_internode}
use Rattle.forest.specs.Nodes.{count_at}
use Rattle.model.specs.Leaves.{fresh_node}
use Rattle.model.specs.declared.Grown.{Grown}
use Rattle.model.specs.declared.Grown.TheVariants.{One, Two}

-- internode k by value
unfoldable pub internode_in : List ℕ → ℕ → internode.Internode
internode_in nodes k =
    record {
      n = count_at nodes k;
      ikeys = part nodes (node_start k + 2) 15;
      children = part nodes (node_start k + children_from) 16;
    }

-- an internode in the place of node k
unfoldable pub internode_put : List ℕ → ℕ → internode.Internode → List ℕ
internode_put nodes k x = put_internode nodes k (record { n = x.n; ikeys = x.ikeys; children = x.children })

-- a full internode with one key more in two: the left half keeps its number, the right half takes the lowest free one
unfoldable pub internode_split : List ℕ → ℕ → ℕ → ℕ → ℕ → ℕ → List ℕ × Grown
internode_split nodes count k p ikey child = (
  internode_put (internode_put nodes k (split_of (internode_in nodes k) p ikey child).left) (fresh_node nodes count)
      (split_of (internode_in nodes k) p ikey child).right,
  Two (split_of (internode_in nodes k) p ikey child).up (fresh_node nodes count),
)

-- a child more, right of its ikey; an internode has at most 15
unfoldable pub internode_grown : List ℕ → ℕ → ℕ → ℕ → ℕ → List ℕ × Grown
internode_grown nodes count k ikey child =
    cond (ltb 15 (count_at nodes k)) (nodes, One)
    (cond (ltb (count_at nodes k) 15)
    (internode_put nodes k (inserted (internode_in nodes k) (child_place (internode_in nodes k) ikey) ikey child), One)
    (internode_split nodes count k (child_place (internode_in nodes k) ikey) ikey child))

-- an internode over two nodes
abbrev pub over_two : ℕ → ℕ → ℕ → internode.Internode
over_two left ikey right = node_of (ikey ∷ []) (left ∷ right ∷ [])
