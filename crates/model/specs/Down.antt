-- Down a layer: to the leaf of an ikey, and to the entry of an ikey and a class in it.
use Rattle.std.specs.Prelude.{ℕ, zero, suc, ◌+◌, leb, get_or, List}
use Rattle.internode.specs.Lists.{after_last}
use Rattle.forest.specs.Nodes.{ikeys_at, children_at}
use Rattle.forest.specs.Walk.{height_at}

-- the child of an internode for an ikey: after the last of its ikeys that is not above it
unfoldable pub child_for : List ℕ → ℕ → ℕ → ℕ
child_for nodes n ikey = get_or (children_at nodes n) (after_last (λ k. leb k ikey) (ikeys_at nodes n)) 0

-- the leaf for an ikey, from a node of this height down
unfoldable pub leaf_for : List ℕ → ℕ → ℕ → ℕ → ℕ
leaf_for nodes zero n ikey = n
leaf_for nodes (suc h) n ikey = leaf_for nodes h (child_for nodes n ikey) ikey

-- the leaf for an ikey in the layer of this root
unfoldable pub leaf_in : List ℕ → ℕ → ℕ → ℕ
leaf_in nodes root ikey = leaf_for nodes (height_at nodes 255 root) root ikey
