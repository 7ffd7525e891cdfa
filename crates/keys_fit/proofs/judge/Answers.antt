-- `keys_fit::judge` meets its contract. Assumes nothing.
use Rattle.key_layer.proofs.Calls.{judging}
use Rattle.keys_fit.proofs.judge.Goals as goal

pub returns-then-is_fit : goal.returns-then-is_fit
returns-then-is_fit c = search judging

pub returns : goal.returns
returns c = search judging
