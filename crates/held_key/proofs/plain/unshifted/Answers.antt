-- `held_key::plain::unshifted` meets its contract. Assumes nothing.
use Rattle.keys_moved_numbers.proofs.Laws.{numbers-then}
use Rattle.held_key.proofs.plain.unshifted.Goals as goal

pub returns : goal.returns
returns c = search numbers-then
