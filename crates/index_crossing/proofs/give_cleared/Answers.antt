-- `index_crossing::give_cleared` meets its contract: a law for each case of the answer. Assumes nothing.
use Rattle.index_crossing.proofs.Crosses.{cleared-done, cleared-refused}
use Rattle.index_crossing.proofs.give_cleared.Goals as goal

pub returns-in-Ok : goal.returns-in-Ok
returns-in-Ok c = search cleared-done

pub returns-in-Err : goal.returns-in-Err
returns-in-Err c = search cleared-refused
