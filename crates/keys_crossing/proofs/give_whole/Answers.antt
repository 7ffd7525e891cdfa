-- `keys_crossing::give_whole` meets its contract: a law for each case of the answer. Assumes nothing.
use Rattle.keys_crossing.proofs.Crosses.{whole-order, whole-refused}
use Rattle.keys_crossing.proofs.give_whole.Goals as goal

pub returns-in-Ok : goal.returns-in-Ok
returns-in-Ok c = search whole-order

pub returns-in-Err : goal.returns-in-Err
returns-in-Err c = search whole-refused
