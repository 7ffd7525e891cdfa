-- `nodes_crossing::give_child` meets its contract: a law for each case of the answer. Assumes nothing.
use Rattle.nodes_crossing.proofs.Crosses.{child-number, child-refused}
use Rattle.nodes_crossing.proofs.give_child.Goals as goal

pub returns-in-Ok : goal.returns-in-Ok
returns-in-Ok c = search child-number

pub returns-in-Err : goal.returns-in-Err
returns-in-Err c = search child-refused
