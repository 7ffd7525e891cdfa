-- `keys_moved_numbers::shifted_by` meets its contract. Assumes nothing.
use Rattle.keys_moved_numbers.proofs.Laws.{numbers-then}
use Rattle.keys_moved_numbers.proofs.shifted_by.Goals as goal

pub returns : goal.returns
returns c = search numbers-then
