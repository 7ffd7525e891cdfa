-- `crossing::give_told` meets its contract: a law for each case of the answer. Assumes nothing.
use Rattle.crossing.proofs.Crosses.{told-number, told-refused}
use Rattle.crossing.proofs.give_told.Goals as goal

pub returns-in-Ok : goal.returns-in-Ok
returns-in-Ok c = search told-number

pub returns-in-Err : goal.returns-in-Err
returns-in-Err c = search told-refused
