-- `insert_key_and_child` meets its contract. Assumes nothing.
use Rattle.internode.proofs.Calls.{insert-refused, insert-done}
use Rattle.internode.proofs.insert_key_and_child.Goals as goal

pub returns-in-Err : goal.returns-in-Err
returns-in-Err c = insert-refused c.args.node c.args.p c.args.ikey c.args.child c.in-Err.why c.in-Err.ensures

pub returns : goal.returns
returns c = insert-done c.args.node c.args.p c.args.ikey c.args.child c.in_default.ensures c.insert.ensures
