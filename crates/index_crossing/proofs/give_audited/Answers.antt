-- `index_crossing::give_audited` meets its contract: a law for each case of the answer. Assumes nothing.
use Rattle.index_crossing.proofs.Crosses.{audited-tree, audited-refused}
use Rattle.index_crossing.proofs.give_audited.Goals as goal

pub returns-in-Ok : goal.returns-in-Ok
returns-in-Ok c = search audited-tree

pub returns-in-Err : goal.returns-in-Err
returns-in-Err c = search audited-refused
