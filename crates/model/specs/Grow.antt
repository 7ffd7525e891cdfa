-- A layer with an entry more, and the layers that a conflict makes.
use Rattle.std.specs.Prelude.{ℕ, zero, suc, ◌+◌, ◌*◌, cond, List, [], ◌∷◌, ltb, length, set}
use Rattle.memory_layout.specs.Numbers.{refs_from}
use Rattle.order.specs.Layer.{ikey_at, class_at}
use Rattle.forest.specs.OneLeaf.{Entry}
use Rattle.forest.specs.OneLeaf.{less}
use Rattle.arena.specs.Layout.{node_start, put_leaf}
use Rattle.forest.specs.Walk.{height_at}
use Rattle.model.specs.Down.{child_for}
use Rattle.model.specs.Leaves.{fresh_node, leaf_with, leaf_grown, leaf_rests}
use Rattle.model.specs.Internodes.{internode_put, internode_grown, over_two}
use Rattle.model.specs.declared.Grown.{Grown}
use Rattle.model.specs.declared.Grown.TheVariants.{One, Two}
use Rattle.model.specs.Needed.{both_go_on}

-- a child that became two makes its parent grow
abbrev pub parent_grown : ℕ → ℕ → List ℕ × Grown → List ℕ × Grown
parent_grown count n (nodes, One) = (nodes, One)
parent_grown count n (nodes, Two ikey child) = internode_grown nodes count n ikey child

-- an entry more below node n of this height; beyond the last node nothing changes
unfoldable pub node_grown : List ℕ → ℕ → ℕ → ℕ → Entry → List ℕ × Grown
node_grown nodes count zero n e = cond (ltb n count) (leaf_grown nodes count n e) (nodes, One)
node_grown nodes count (suc h) n e =
    cond (ltb n count) (parent_grown count n (node_grown nodes count h (child_for nodes n e.ikey) e)) (nodes, One)

-- a root that became two gets a new root over it, whose number goes where the root's was
abbrev pub root_grown : ℕ → ℕ → ℕ → List ℕ × Grown → List ℕ
root_grown count holder root (nodes, One) = nodes
root_grown count holder root (nodes, Two ikey right) =
    set (internode_put nodes (fresh_node nodes count) (over_two root ikey right)) holder (fresh_node nodes count)

-- an entry more in the layer of this root
unfoldable pub layer_grown : List ℕ → ℕ → ℕ → ℕ → Entry → List ℕ
layer_grown nodes count holder root e =
    root_grown count holder root (node_grown nodes count (height_at nodes 255 root) root e)

-- how many slots rest where an entry more goes, below node n of this height; beyond the last node nothing is told
unfoldable pub node_rests : List ℕ → ℕ → ℕ → ℕ → Entry → ℕ
node_rests nodes count zero n e = cond (ltb n count) (leaf_rests nodes n e) 0
node_rests nodes count (suc h) n e = cond (ltb n count) (node_rests nodes count h (child_for nodes n e.ikey) e) 0

-- the same in the layer of this root
unfoldable pub layer_rests : List ℕ → ℕ → ℕ → Entry → ℕ
layer_rests nodes count root e = node_rests nodes count (height_at nodes 255 root) root e

-- ---- a conflict

-- the entry of a key and its cell at a layer
unfoldable pub entry_for : List ℕ → ℕ → ℕ → Entry
entry_for key cell links =
    record { ikey = ikey_at key (8 * links); class = class_at key (8 * links); at = cell }

-- two entries in order
abbrev pub entries_in_order : Entry → Entry → List Entry
entries_in_order a b = cond (less a b) (a ∷ b ∷ []) (b ∷ a ∷ [])

-- the link of a single-link leaf; the number of the layer below follows
abbrev pub link_for : List ℕ → ℕ → Entry
link_for key links = record { ikey = ikey_at key (8 * links); class = 10; at = 0 }

-- a key with its cell
pub record Label : Type 0 where
  pub key : List ℕ
  pub cell : ℕ

-- a leaf with the two
abbrev pub both_put : List ℕ → ℕ → Label → Label → ℕ → List ℕ
both_put nodes k a b links =
    put_leaf nodes k (leaf_with (entries_in_order (entry_for a.key a.cell links) (entry_for b.key b.cell links)))

-- the layers of a conflict from a layer on: each takes the lowest free node, and its number goes where the link above has it; while
-- both keys agree and go on, a leaf with nothing but a link, and at last a leaf that holds both
unfoldable pub layers_grown : ℕ → List ℕ → ℕ → ℕ → Label → Label → ℕ → List ℕ
layers_grown zero nodes count holder a b links =
    both_put (set nodes holder (fresh_node nodes count)) (fresh_node nodes count) a b links
layers_grown (suc l) nodes count holder a b links =
    cond (both_go_on a.key b.key links)
    (layers_grown l
    (put_leaf (set nodes holder (fresh_node nodes count)) (fresh_node nodes count) (leaf_with (link_for a.key links ∷ [])))
    count (node_start (fresh_node nodes count) + refs_from) a b (suc links))
    (both_put (set nodes holder (fresh_node nodes count)) (fresh_node nodes count) a b links)
