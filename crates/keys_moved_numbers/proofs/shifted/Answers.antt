-- `keys_moved_numbers::shifted` meets its contract. Assumes nothing.
use Rattle.keys_moved_numbers.proofs.Laws.{numbers-then}
use Rattle.keys_moved_numbers.proofs.shifted.Goals as goal

pub returns : goal.returns
returns c = search numbers-then
