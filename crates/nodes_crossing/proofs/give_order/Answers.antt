-- `nodes_crossing::give_order` meets its contract: a law for each case of the answer. Assumes nothing.
use Rattle.nodes_crossing.proofs.Crosses.{order-told, order-refused}
use Rattle.nodes_crossing.proofs.give_order.Goals as goal

pub returns-in-Ok : goal.returns-in-Ok
returns-in-Ok c = search order-told

pub returns-in-Err : goal.returns-in-Err
returns-in-Err c = search order-refused
