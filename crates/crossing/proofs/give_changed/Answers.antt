-- `crossing::give_changed` meets its contract: a law for each case of the answer. Assumes nothing.
use Rattle.crossing.proofs.Crosses.{changed-word, changed-refused}
use Rattle.crossing.proofs.give_changed.Goals as goal

pub returns-in-Ok : goal.returns-in-Ok
returns-in-Ok c = search changed-word

pub returns-in-Err : goal.returns-in-Err
returns-in-Err c = search changed-refused
