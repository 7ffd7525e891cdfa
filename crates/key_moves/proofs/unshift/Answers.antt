-- `key_moves::unshift` meets its contract. Assumes nothing.
use Rattle.std.proofs.lemmas.Result.{err_from_is_err_and}
use Rattle.key_layer.proofs.Fitting.{judged-withins}
use Rattle.key_layer.proofs.Calls.{judged-fits, moved-refused, moved_later, moved-first}
use Rattle.key_moves.proofs.unshift.Goals as goal

pub returns-in_err-judge : goal.returns-in_err-judge
returns-in_err-judge c =
    let p = err_from_is_err_and c.from_residual.result c.from_residual.ensures.1 in
    rw (p.1, p.2) (moved-refused _ _ _ _ _ _ _ _ c.in_err-judge.ensures)

pub layer-requires : goal.layer-requires
layer-requires c = let e = judged-fits _ _ _ _ c.in_ok-judge.ensures in search (judged-withins, e)

pub returns-then-shift_count-gt0 : goal.returns-then-shift_count-gt0
returns-then-shift_count-gt0 c = let e = judged-fits _ _ _ _ c.in_ok-judge.ensures in search (moved_later, e)

pub returns : goal.returns
returns c = let e = judged-fits _ _ _ _ c.in_ok-judge.ensures in search (moved-first, e)
