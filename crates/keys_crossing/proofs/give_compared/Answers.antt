-- `keys_crossing::give_compared` meets its contract: a law for each case of the answer. Assumes nothing.
use Rattle.keys_crossing.proofs.Crosses.{compared-order, compared-refused}
use Rattle.keys_crossing.proofs.give_compared.Goals as goal

pub returns-in-Ok : goal.returns-in-Ok
returns-in-Ok c = search compared-order

pub returns-in-Err : goal.returns-in-Err
returns-in-Err c = search compared-refused
