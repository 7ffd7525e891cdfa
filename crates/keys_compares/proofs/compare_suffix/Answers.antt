-- `keys_compares::compare_suffix` meets its contract. Assumes nothing.
use Rattle.std.proofs.lemmas.Result.{err_from_is_err_and}
use Rattle.key_layer.proofs.Calls.{judged-fits, asked-refused, part-passed}
use Rattle.keys_compares.proofs.compare_suffix.Goals as goal

pub returns-in_err-judge : goal.returns-in_err-judge
returns-in_err-judge c =
    let p = err_from_is_err_and c.from_residual.result c.from_residual.ensures.1 in
    rw (p.1, p.2) (asked-refused _ _ _ _ _ _ _ c.in_err-judge.ensures)

pub returns : goal.returns
returns c = let e = judged-fits _ _ _ _ c.in_ok-judge.ensures in search (part-passed, e)
