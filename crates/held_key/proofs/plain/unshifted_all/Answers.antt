-- `held_key::plain::unshifted_all` meets its contract. Assumes nothing.
use Rattle.keys_moved_numbers.proofs.Laws.{numbers-then}
use Rattle.held_key.proofs.plain.unshifted_all.Goals as goal

pub returns : goal.returns
returns c = search numbers-then
