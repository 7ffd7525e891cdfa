-- `index_crossing::give_found` meets its contract: a law for each case of the answer. Assumes nothing.
use Rattle.index_crossing.proofs.Crosses.{found-frame, found-refused}
use Rattle.index_crossing.proofs.give_found.Goals as goal

pub returns-in-Ok : goal.returns-in-Ok
returns-in-Ok c = search found-frame

pub returns-in-Err : goal.returns-in-Err
returns-in-Err c = search found-refused
