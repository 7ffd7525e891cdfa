-- `index_crossing::give_counted` meets its contract: a law for each case of the answer. Assumes nothing.
use Rattle.index_crossing.proofs.Crosses.{counted-entries, counted-refused}
use Rattle.index_crossing.proofs.give_counted.Goals as goal

pub returns-in-Ok : goal.returns-in-Ok
returns-in-Ok c = search counted-entries

pub returns-in-Err : goal.returns-in-Err
returns-in-Err c = search counted-refused
