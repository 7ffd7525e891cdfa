-- `wide_crossing::give_inserted` meets its contract: a law for each case of the answer. Assumes nothing.
use Rattle.wide_crossing.proofs.Crosses.{inserted-slot, inserted-refused}
use Rattle.wide_crossing.proofs.give_inserted.Goals as goal

pub returns-in-Ok : goal.returns-in-Ok
returns-in-Ok c = search inserted-slot

pub returns-in-Err : goal.returns-in-Err
returns-in-Err c = search inserted-refused
