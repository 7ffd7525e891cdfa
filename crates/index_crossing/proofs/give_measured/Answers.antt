-- `index_crossing::give_measured` meets its contract: a law for each case of the answer. Assumes nothing.
use Rattle.index_crossing.proofs.Crosses.{measured-fit, measured-refused}
use Rattle.index_crossing.proofs.give_measured.Goals as goal

pub returns-in-Ok : goal.returns-in-Ok
returns-in-Ok c = search measured-fit

pub returns-in-Err : goal.returns-in-Err
returns-in-Err c = search measured-refused
