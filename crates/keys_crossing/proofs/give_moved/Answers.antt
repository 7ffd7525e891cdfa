-- `keys_crossing::give_moved` meets its contract: a law for each case of the answer. Assumes nothing.
use Rattle.keys_crossing.proofs.Crosses.{moved_at, moved-refused}
use Rattle.keys_crossing.proofs.give_moved.Goals as goal

pub returns-in-Ok : goal.returns-in-Ok
returns-in-Ok c = search moved_at

pub returns-in-Err : goal.returns-in-Err
returns-in-Err c = search moved-refused
