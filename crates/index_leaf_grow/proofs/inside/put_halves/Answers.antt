-- `index_leaf_grow::inside::put_halves` meets its contract. Assumes nothing.
use borrow.Author.Rules.{rules}
use Rattle.index_leaf_grow.proofs.Leaves.{leaf-two}
use Rattle.index_leaf_grow.proofs.inside.put_halves.Goals as goal

-- the memory that is left, and what became of the leaf, by what each call did
pub returns : goal.returns
returns c =
    leaf-two _ _ _ _ c.requires.3 c.lowest-right.ensures.0 c.leaf_of.ensures c.store_leaf.ensures (search rules)
    c.leaf_of-2.ensures c.store_leaf-2.ensures
