-- An internode, its places and an insertion, passed on from the crates below; and all that a node holds.
use Rattle.std.specs.Prelude.{ℕ, List, ◌∷◌, ◌++◌}
use Rattle.internode_places.specs.declared.Internode.{Internode}
pub use Rattle.internode_places.specs.Node.{keys_of, children_of, insert_position, child_place, child_for}
unfoldable pub use Rattle.internode_places.specs.Node.{good}
pub use Rattle.internode_inserts.specs.Insert.{inserted}

-- all that an internode holds: n, the fifteen ikeys, the sixteen children
abbrev pub numbers : Internode → List ℕ
numbers x = x.n ∷ (x.ikeys ++ x.children)
