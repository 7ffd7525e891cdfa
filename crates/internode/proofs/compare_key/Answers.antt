-- `compare_key` meets its contract. Assumes nothing.
use borrow.Author.Rules.{rules}
use Rattle.std.proofs.lemmas.Result.{err_from_is_err_and}
use Rattle.internode.proofs.Calls.{compare-node, compare-position, compare-is, good-n}
use Rattle.internode.proofs.compare_key.Goals as goal

pub returns-in_err-judge : goal.returns-in_err-judge
returns-in_err-judge c =
    let p = err_from_is_err_and c.from_residual.result c.from_residual.ensures.1 in
    rw (p.1, p.2) (compare-node c.args.node c.in_err-judge.ensures c.args.target c.args.p)

pub returns-then-node-p : goal.returns-then-node-p
returns-then-node-p c = compare-position c.args.node c.in_ok-judge.ensures c.args.target c.args.p c.if-node-p.true

pub offset_bounds-node-p : goal.offset_bounds-node-p
offset_bounds-node-p c = let h = good-n c.args.node c.in_ok-judge.ensures in search rules

pub bounds-node-p : goal.bounds-node-p
bounds-node-p c = let h = good-n c.args.node c.in_ok-judge.ensures in search rules

pub returns : goal.returns
returns c = let h = compare-is c.args.node c.in_ok-judge.ensures in search (rules, h)
