-- `index_crossing::give_removed` meets its contract: a law for each case of the answer. Assumes nothing.
use Rattle.index_crossing.proofs.Crosses.{removed-done, removed-refused}
use Rattle.index_crossing.proofs.give_removed.Goals as goal

pub returns-in-Ok : goal.returns-in-Ok
returns-in-Ok c = search removed-done

pub returns-in-Err : goal.returns-in-Err
returns-in-Err c = search removed-refused
