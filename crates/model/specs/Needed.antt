-- The nodes that a put of a new key takes: those that its splits add, a root over a root that was split, and the layers that a
-- conflict adds.
use Rattle.std.specs.Prelude.{ℕ, zero, suc, ◌+◌, ◌*◌, ◌%◌, Bool, cond, ◌&&◌, List, ltb, eqb, length}
use Rattle.order.specs.Layer.{ikey_at}
use Rattle.arena.specs.Layout.{word_at}
use Rattle.model.specs.Down.{child_for}

-- a full node is split too, and takes one more than those above it; a node with room takes none, and none are above it
abbrev pub split_too : ℕ → ℕ → ℕ
split_too size taken = cond (ltb size 15) 0 (suc taken)

-- on the way down to the leaf of an ikey: `taken` is what is needed if the node is split
unfoldable pub need_in : List ℕ → ℕ → ℕ → ℕ → ℕ → ℕ
need_in nodes zero n ikey taken = split_too (word_at nodes n 1 % 16) taken
need_in nodes (suc h) n ikey taken = need_in nodes h (child_for nodes n ikey) ikey (split_too (word_at nodes n 1) taken)

-- both keys have the same ikey at a layer, and are longer
unfoldable pub both_go_on : List ℕ → List ℕ → ℕ → Bool
both_go_on key other links =
    ltb (8 * links + 8) (length key)
    && (ltb (8 * links + 8) (length other) && eqb (ikey_at key (8 * links)) (ikey_at other (8 * links)))

-- the layers that a conflict adds, from a layer on: one while both keys agree and go on, and one that holds both
unfoldable pub layers_of : ℕ → List ℕ → List ℕ → ℕ → ℕ
layers_of zero key other links = 1
layers_of (suc l) key other links = cond (both_go_on key other links) (suc (layers_of l key other (suc links))) 1
