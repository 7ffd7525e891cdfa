-- `keys_crossing::give_made` meets its contract: a law for each case of the answer. Assumes nothing.
use Rattle.keys_crossing.proofs.Crosses.{made_at, made-refused}
use Rattle.keys_crossing.proofs.give_made.Goals as goal

pub returns-in-Ok : goal.returns-in-Ok
returns-in-Ok c = search made_at

pub returns-in-Err : goal.returns-in-Err
returns-in-Err c = search made-refused
