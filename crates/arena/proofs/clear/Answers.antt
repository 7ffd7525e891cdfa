-- `clear` meets its contract. Assumes nothing.
use Rattle.arena.proofs.Clears.{one-node, clear-done}
use Rattle.arena.proofs.clear.Goals as goal

pub store_leaf-requires : goal.store_leaf-requires
store_leaf-requires c = search (one-node, c.in_ok-lengths.was)

pub returns : goal.returns
returns c = search (clear-done, c.in_ok-lengths.was)
