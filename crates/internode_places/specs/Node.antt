-- An internode: 0 to 15 strictly rising ikeys and one child more; where an ikey belongs among them, and the child for it.
use Rattle.std.specs.Prelude.{ℕ, ◌+◌, Bool, ◌&&◌, List, take, get_or, leb}
use Rattle.internode_places.specs.declared.Internode.{Internode}
use Rattle.internode_places.specs.Lists.{rising, first, after_last}

-- the ikeys in use
abbrev pub keys_of : Internode → List ℕ
keys_of x = take x.n x.ikeys

-- the children in use, one more than the ikeys
abbrev pub children_of : Internode → List ℕ
children_of x = take (x.n + 1) x.children

-- refusal 3: n is at most 15, and the ikeys are strictly rising
unfoldable pub good : Internode → Bool
good x = leb x.n 15 && rising (keys_of x)

-- the first ikey not below the target, or n
abbrev pub insert_position : Internode → ℕ → ℕ
insert_position x target = first (λ k. leb target k) (keys_of x)

-- the place of the child after the last ikey not above the target
abbrev pub child_place : Internode → ℕ → ℕ
child_place x target = after_last (λ k. leb k target) (keys_of x)

-- the child there
abbrev pub child_for : Internode → ℕ → ℕ
child_for x target = get_or x.children (child_place x target) 0
