-- The cells in key order, by the layer walk and the node walk.
use Rattle.std.specs.Prelude.{ℕ, zero, suc, ◌-◌, cond, List, [], ◌∷◌, map, ltb, length, get_or}
use Rattle.order.specs.Lists.{flattened}
use Rattle.forest.specs.Nodes.{entries_at, children_at}
use Rattle.forest.specs.Trees.{Key, Ref, cell, link, seen_as}
use Rattle.forest.specs.Walk.{height_at}
use Rattle.model.specs.declared.Reached.{Reached}
use Rattle.model.specs.declared.Reached.TheVariants.{Here, Beyond}

-- an entry's cell, or all of the layer below
abbrev pub cells_of : (ℕ → List ℕ) → Ref → List ℕ
cells_of below (cell c) = c ∷ []
cells_of below (link root) = below root

-- the cells of a leaf, in order, with those of the layers below its links
unfoldable pub cells_of_leaf : (ℕ → List ℕ) → List ℕ → ℕ → List ℕ
cells_of_leaf below nodes n = flattened (λ e. cells_of below e.1) (map seen_as (entries_at nodes n))

-- those of a node of this height, the layers below handed in
unfoldable pub cells_of_node : (ℕ → List ℕ) → List ℕ → ℕ → ℕ → List ℕ
cells_of_node below nodes zero n = cells_of_leaf below nodes n
cells_of_node below nodes (suc h) n = flattened (cells_of_node below nodes h) (children_at nodes n)

-- those of the layer of this root
unfoldable pub cells_of_one : (ℕ → List ℕ) → List ℕ → ℕ → List ℕ
cells_of_one below nodes root = cells_of_node below nodes (height_at nodes 255 root) root

-- from a layer down, below which l links more may follow
unfoldable pub cells_of_layer : ℕ → List ℕ → ℕ → List ℕ
cells_of_layer zero nodes root = cells_of_one (λ root. []) nodes root
cells_of_layer (suc l) nodes root = cells_of_one (cells_of_layer l nodes) nodes root

-- the k-th of these cells, or how many more there are to go behind them
unfoldable pub reach : ℕ → List ℕ → Reached
reach k cells = cond (ltb k (length cells)) (Here (get_or cells k 0)) (Beyond (k - length cells))
