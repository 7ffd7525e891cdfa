-- `child_for` meets its contract. Assumes nothing.
use Rattle.std.proofs.lemmas.Result.{err_from_is_err_and}
use Rattle.internode.proofs.Calls.{child-node, child-is}
use Rattle.internode.proofs.child_for.Goals as goal

pub returns-in_err-judge : goal.returns-in_err-judge
returns-in_err-judge c =
    let p = err_from_is_err_and c.from_residual.result c.from_residual.ensures.1 in
    rw (p.1, p.2) (child-node c.args.node c.in_err-judge.ensures c.args.target)

pub returns : goal.returns
returns c = child-is c.args.node c.in_ok-judge.ensures c.args.target c.child_place-at.ensures.0
