-- `leaf_entries::inside::are_good` meets its contract. Assumes nothing.
use Rattle.leaf_entries.specs.Leaf.{good_entries}
use Rattle.leaf_entries.proofs.inside.are_good.Goals as goal

pub returns-then-are_of_kind : goal.returns-then-are_of_kind
unfolding good_entries
returns-then-are_of_kind c = rw (← c.are_of_kind.ensures, c.if-are_of_kind.true) c.are_rising.ensures

pub returns-else-are_of_kind : goal.returns-else-are_of_kind
unfolding good_entries
returns-else-are_of_kind c = rw (← c.are_of_kind.ensures, c.if-are_of_kind.false)
