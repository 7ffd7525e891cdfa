-- `inside::del` meets its contract. Assumes nothing.
use Rattle.lines.proofs.Replies.{del_ok, del-refused}
use Rattle.lines.proofs.inside.del.Goals as goal

pub returns-in-Ok : goal.returns-in-Ok
returns-in-Ok c = search del_ok

pub returns-in-Err : goal.returns-in-Err
returns-in-Err c = search del-refused
