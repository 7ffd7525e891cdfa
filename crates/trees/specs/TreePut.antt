-- A put into the tree of one layer, and a removal: leaves and internodes that are split, how many nodes that takes, and the search.
-- `top` is the room of a node, `mid` how many children of a split internode stay left, `cut` where the entries of a full leaf are cut.
use Rattle.std.specs.Prelude.{Bool, true, cond, List, [], ◌∷◌, ◌++◌, ◌≡◌, ℕ, ◌≤◌, ◌<◌, zero, suc, ◌+◌, leb, ltb, get_or, length, take, drop}
use Rattle.std.proofs.Math.Option.{Option, none}
use Rattle.order.specs.Map.{All, Sorted, alter, lookup}
use Rattle.trees.specs.Nodes.{IkeyClass, layer_order}
use Rattle.trees.specs.Tree.{AnyTree, low_of_children, TreeOver}

-- what a put into a node answers: one tree or two in its place, each beside its low ikey, and the free numbers left
abbrev pub TreesAndFree : Type 0 → Type 0
TreesAndFree C = List (ℕ × C) × List ℕ

module _ {X : Type 0} where
  -- A node's new list xs in one node, or, if it has more than there is room for, in two: the first c stay in node n, and the others go
  -- into a node that takes the lowest free number.
  abbrev pub store_or_split : (List X → ℕ) → (room c lo n : ℕ) → List X → List ℕ → TreesAndFree (ℕ × List X)
  store_or_split low room c lo n xs fs =
      cond (leb (length xs) room)
      ((lo, (n, xs)) ∷ [], fs)
      ((lo, (n, take c xs)) ∷ (low (drop c xs), (get_or fs 0 0, drop c xs)) ∷ [], drop 1 fs)

-- x lies before the next child
abbrev pub before_next : {C : Type 0} → ℕ → List (ℕ × C) → Bool
before_next x [] = true
before_next x (q ∷ qs) = ltb x q.0

-- down to the child after the last low ikey not above x: `go` answers for it, and its answer stands in its place
abbrev pub through_child : {C S : Type 0} → (ℕ × C → S → List (ℕ × C) × S) → ℕ → List (ℕ × C) → S → List (ℕ × C) × S
through_child go x [] fs = ([], fs)
through_child go x (p ∷ ps) fs =
    cond (before_next x ps)
    ((go p fs).0 ++ ps, (go p fs).1)
    (p ∷ (through_child go x ps fs).0, (through_child go x ps fs).1)

-- what `go` says of that child
abbrev pub of_child : {C A : Type 0} → A → (ℕ × C → A) → ℕ → List (ℕ × C) → A
of_child z go x [] = z
of_child z go x (p ∷ ps) = cond (before_next x ps) (go p) (of_child z go x ps)

-- the low ikey of a list of entries: the first one's
abbrev pub low_of_entries : {W : Type 0} → List (IkeyClass × W) → ℕ
low_of_entries [] = 0
low_of_entries (e ∷ es) = e.0.0

module _ (W : Type 0) (top mid : ℕ) (cut : List (IkeyClass × W) → ℕ) where
  -- The entry of k becomes f of what it was, in the tree of height d beside its low ikey: the leaf's entries change as the sorted map,
  -- and each node on the way is split if it must. Numbers are taken from the leaf upward.
  abbrev pub tree_put : (d : ℕ) → IkeyClass → (Option W → Option W) → ℕ × TreeOver W d → List ℕ → TreesAndFree (TreeOver W d)
  tree_put zero k f p fs =
      let es = alter layer_order k f p.1.1 in
      store_or_split low_of_entries top (cut es) p.0 p.1.0 es fs
  tree_put (suc d) k f p fs =
      let r = through_child (tree_put d k f) k.0 p.1.1 fs in
      store_or_split low_of_children (suc top) mid p.0 p.1.0 r.0 r.1

  -- how many nodes are split: so many numbers are taken
  abbrev pub split_nodes : (d : ℕ) → IkeyClass → (Option W → Option W) → ℕ × TreeOver W d → List ℕ → ℕ
  split_nodes zero k f p fs = cond (leb (length (alter layer_order k f p.1.1)) top) 0 1
  split_nodes (suc d) k f p fs =
      of_child 0 (λ q. split_nodes d k f q fs) k.0 p.1.1
      + cond (leb (length (through_child (tree_put d k f) k.0 p.1.1 fs).0) (suc top)) 0 1

  -- a good cut of the entries: something on both sides, and every ikey on the left below those on the right
  pub record GoodCut (es : List (IkeyClass × W)) : Type 0 where
    pub some_left : 1 ≤ cut es
    pub some_right : cut es ≤ top
    pub apart : All (λ e. e.0.0 < low_of_entries (drop (cut es) es)) (take (cut es) es)

  -- every list of entries that rise, one more than there is room for, has a good cut
  abbrev pub CutsWell : Type 0
  CutsWell = (es : List (IkeyClass × W)) → Sorted layer_order es → All (λ e. e.0.1 ≤ 9) es → length es ≡ suc top → GoodCut es

module _ (W : Type 0) (top mid : ℕ) (cut : List (IkeyClass × W) → ℕ) where
  -- the node at the top is not split
  abbrev pub stays_one : (d : ℕ) → IkeyClass → (Option W → Option W) → ℕ × TreeOver W d → List ℕ → Bool
  stays_one zero k f p fs = leb (length (alter layer_order k f p.1.1)) top
  stays_one (suc d) k f p fs = leb (length (through_child (tree_put W top mid cut d k f) k.0 p.1.1 fs).0) (suc top)

  -- The numbers that the put takes, where `up` more are taken above if this node is split: counted on one way down, with no look back.
  abbrev pub tree_needs : (d : ℕ) → IkeyClass → (Option W → Option W) → ℕ × TreeOver W d → ℕ → ℕ
  tree_needs zero k f p up = cond (leb (length (alter layer_order k f p.1.1)) top) 0 (suc up)
  tree_needs (suc d) k f p up = of_child 0 (λ q. tree_needs d k f q (cond (leb (length p.1.1) top) 0 (suc up))) k.0 p.1.1

module _ (W : Type 0) where
  -- what the entry of k has, if there is one
  abbrev pub tree_find : (d : ℕ) → IkeyClass → ℕ × TreeOver W d → Option W
  tree_find zero k p = lookup layer_order k p.1.1
  tree_find (suc d) k p = of_child none (tree_find d k) k.0 p.1.1

module _ (W : Type 0) where
  -- the put's answer as one tree: where the top node was split, a new root over the two takes the lowest free number
  abbrev pub with_root : (d : ℕ) → List (ℕ × TreeOver W d) → List ℕ → AnyTree W
  with_root d [] fs = (suc d, (0, []))
  with_root d (p ∷ []) fs = (d, p.1)
  with_root d (p ∷ q ∷ ps) fs = (suc d, (get_or fs 0 0, p ∷ q ∷ ps))

module _ (W : Type 0) (top mid : ℕ) (cut : List (IkeyClass × W) → ℕ) where
  -- the numbers that a put into the whole tree takes: one for each split node, one more for a new root
  abbrev pub layer_needs : IkeyClass → (Option W → Option W) → AnyTree W → ℕ
  layer_needs k f t = tree_needs W top mid cut t.0 k f (0, t.1) 1

module _ (W : Type 0) where
  -- the entries of the leaf that x leads to
  abbrev pub tree_leaf : (d : ℕ) → ℕ → TreeOver W d → List (IkeyClass × W)
  tree_leaf zero x t = t.1
  tree_leaf (suc d) x t = of_child [] (λ q. tree_leaf d x q.1) x t.1

  -- the same in a tree of any height
  abbrev pub any_leaf : ℕ → AnyTree W → List (IkeyClass × W)
  any_leaf x t = tree_leaf t.0 x t.1

module _ (W : Type 0) (top : ℕ) (cut : List (IkeyClass × W) → ℕ) where
  -- Of a leaf's new entries, those of the leaf that x leads to then: all of them, or, if there are more than there is room for, those of
  -- the half in which x lies.
  abbrev pub leaf_kept : ℕ → List (IkeyClass × W) → List (IkeyClass × W)
  leaf_kept x es =
      cond (leb (length es) top) es (cond (ltb x (low_of_entries (drop (cut es) es))) (take (cut es) es) (drop (cut es) es))
