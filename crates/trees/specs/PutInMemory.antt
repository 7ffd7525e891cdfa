-- The same put, read off memory and written to it.
use Rattle.std.specs.Prelude.{cond, List, [], ◌∷◌, ℕ, zero, suc, leb, length, set, take, drop}
use Rattle.std.proofs.Math.Option.{Option}
use Rattle.order.specs.Map.{alter}
use Rattle.trees.specs.Nodes.{IkeyClass, layer_order, Node, leaf, NodeList, node_in, leaf_entries, children_of}
use Rattle.trees.specs.FreeNumbers.{lowest_free}
use Rattle.trees.specs.Tree.{low_of_children, internode_of}
use Rattle.trees.specs.TreePut.{through_child, low_of_entries}

-- A node's new list xs written to node n, or to it and to the lowest free node. The answer has the low ikey and number of each. `enc`
-- makes the node of a list, `low` gives the low ikey of one.
abbrev pub write_or_split : {W X : Type 0} → (List X → Node W) → (List X → ℕ) → (room c lo n : ℕ) → List X → NodeList W
    → List (ℕ × ℕ) × NodeList W
write_or_split enc low room c lo n xs m =
    cond (leb (length xs) room)
    ((lo, n) ∷ [], set m n (enc xs))
    ((lo, n) ∷ (low (drop c xs), lowest_free m) ∷ [], set (set m n (enc (take c xs))) (lowest_free m) (enc (drop c xs)))

module _ (W : Type 0) (top mid : ℕ) (cut : List (IkeyClass × W) → ℕ) where
  -- the entry of k becomes f of what it was, in the tree of height d whose low ikey and root number are p
  abbrev pub memory_put : (d : ℕ) → IkeyClass → (Option W → Option W) → ℕ × ℕ → NodeList W → List (ℕ × ℕ) × NodeList W
  memory_put zero k f p m =
      let es = alter layer_order k f (leaf_entries (node_in m p.1)) in
      write_or_split leaf low_of_entries top (cut es) p.0 p.1 es m
  memory_put (suc d) k f p m =
      let r = through_child (memory_put d k f) k.0 (children_of p.0 (node_in m p.1)) m in
      write_or_split internode_of low_of_children (suc top) mid p.0 p.1 r.0 r.1

module _ (W : Type 0) (top mid : ℕ) (cut : List (IkeyClass × W) → ℕ) where
  -- the same, with no write to an internode whose child stays one
  abbrev pub stopping_put : (d : ℕ) → IkeyClass → (Option W → Option W) → ℕ × ℕ → NodeList W → List (ℕ × ℕ) × NodeList W
  stopping_put zero k f p m =
      let es = alter layer_order k f (leaf_entries (node_in m p.1)) in
      write_or_split leaf low_of_entries top (cut es) p.0 p.1 es m
  stopping_put (suc d) k f p m =
      let ps = children_of p.0 (node_in m p.1) in
      let r = through_child (stopping_put d k f) k.0 ps m in
      cond (leb (length r.0) (length ps)) (p ∷ [], r.1)
      (write_or_split internode_of low_of_children (suc top) mid p.0 p.1 r.0 r.1)

module _ (W : Type 0) where
  -- the root's number after the put: a new root over two takes the lowest free node
  abbrev pub memory_with_root : List (ℕ × ℕ) → NodeList W → ℕ × NodeList W
  memory_with_root [] m = (0, m)
  memory_with_root (x ∷ []) m = (x.1, m)
  memory_with_root (x ∷ y ∷ xs) m = (lowest_free m, set m (lowest_free m) (internode_of (x ∷ y ∷ xs)))

module _ (W : Type 0) (top mid : ℕ) (cut : List (IkeyClass × W) → ℕ) where
  -- the change of one layer of height d rooted at r: the new root's number, and the new memory
  abbrev pub layer_put : (d : ℕ) → IkeyClass → (Option W → Option W) → ℕ → NodeList W → ℕ × NodeList W
  layer_put d k f r m =
      let b = memory_put W top mid cut d k f (0, r) m in
      memory_with_root W b.0 b.1
