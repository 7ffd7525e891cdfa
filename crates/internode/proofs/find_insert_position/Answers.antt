-- `find_insert_position` meets its contract. Assumes nothing.
use Rattle.std.proofs.lemmas.Result.{err_from_is_err_and}
use Rattle.internode.proofs.Calls.{find-node, find_at, good-n}
use Rattle.internode.proofs.find_insert_position.Goals as goal

pub returns-in_err-judge : goal.returns-in_err-judge
returns-in_err-judge c =
    let p = err_from_is_err_and c.from_residual.result c.from_residual.ensures.1 in
    rw (p.1, p.2) (find-node c.args.node c.in_err-judge.ensures c.args.target)

pub insert_position-requires : goal.insert_position-requires
insert_position-requires c = good-n c.args.node c.in_ok-judge.ensures

pub returns : goal.returns
returns c = find_at c.args.node c.in_ok-judge.ensures c.args.target c.insert_position.ensures
