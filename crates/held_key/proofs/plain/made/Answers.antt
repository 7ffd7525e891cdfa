-- `held_key::plain::made` meets its contract. Assumes nothing.
use Rattle.keys_moved_numbers.proofs.Laws.{numbers-then}
use Rattle.held_key.proofs.plain.made.Goals as goal

pub returns : goal.returns
returns c = search numbers-then
