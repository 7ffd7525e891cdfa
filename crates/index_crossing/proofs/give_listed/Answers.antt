-- `index_crossing::give_listed` meets its contract: a law for each case of the answer. Assumes nothing.
use Rattle.index_crossing.proofs.Crosses.{listed-entry, listed-refused}
use Rattle.index_crossing.proofs.give_listed.Goals as goal

pub returns-in-Ok : goal.returns-in-Ok
returns-in-Ok c = search listed-entry

pub returns-in-Err : goal.returns-in-Err
returns-in-Err c = search listed-refused
