-- `keys_moved_numbers::of_made` meets its contract: a law for each case of the answer. Assumes nothing.
use Rattle.keys_moved_numbers.proofs.Laws.{numbers}
use Rattle.keys_moved_numbers.proofs.of_made.Goals as goal

pub returns-in-Ok : goal.returns-in-Ok
returns-in-Ok c = search numbers

pub returns-in-Err : goal.returns-in-Err
returns-in-Err c = search numbers
