-- One layer read off memory: its height, the search, what a new entry needs, and the listing.
use Rattle.std.specs.Prelude.{cond, List, ℕ, zero, suc, leb, get_or, length}
use Rattle.std.proofs.Math.Option.{Option, none}
use Rattle.order.specs.Lists.{flattened}
use Rattle.order.specs.Map.{lookup}
use Rattle.trees.specs.Nodes.{IkeyClass, layer_order, Node, free, leaf, internode, NodeList, node_in, leaf_entries, children_of}
use Rattle.trees.specs.TreePut.{of_child}

-- the height of a node: one more than that of its first child, which g gives
abbrev height_above : {W : Type 0} → (ℕ → ℕ) → Node W → ℕ
height_above g free = 0
height_above g (leaf es) = 0
height_above g (internode ks cs) = suc (g (get_or cs 0 0))

-- the height of the tree rooted at n, at most i deep
abbrev pub height_from : {W : Type 0} → ℕ → NodeList W → ℕ → ℕ
height_from zero m n = 0
height_from (suc i) m n = height_above (height_from i m) (node_in m n)

module _ (W : Type 0) where
  -- what the entry of k has, if there is one, in the tree of height d whose low ikey and root number are p
  abbrev pub memory_find : (d : ℕ) → IkeyClass → ℕ × ℕ → NodeList W → Option W
  memory_find zero k p m = lookup layer_order k (leaf_entries (node_in m p.1))
  memory_find (suc d) k p m = of_child none (λ q. memory_find d k q m) k.0 (children_of p.0 (node_in m p.1))

module _ (W : Type 0) (top : ℕ) where
  -- the nodes that a new entry with ikey x takes there, where `up` more are taken above if this node is split
  abbrev pub memory_needs : (d : ℕ) → ℕ → ℕ × ℕ → NodeList W → ℕ → ℕ
  memory_needs zero x p m up = cond (leb (suc (length (leaf_entries (node_in m p.1)))) top) 0 (suc up)
  memory_needs (suc d) x p m up =
      let ps = children_of p.0 (node_in m p.1) in
      of_child 0 (λ q. memory_needs d x q m (cond (leb (length ps) top) 0 (suc up))) x ps

module _ (W : Type 0) where
  -- the entries of that tree, in order
  abbrev pub memory_entries : (d : ℕ) → ℕ × ℕ → NodeList W → List (IkeyClass × W)
  memory_entries zero p m = leaf_entries (node_in m p.1)
  memory_entries (suc d) p m = flattened (λ q. memory_entries d q m) (children_of p.0 (node_in m p.1))
