-- `store::inside::lacking` meets its contract. Assumes nothing.
use Rattle.store.proofs.Counting.{counting}
use Rattle.store.proofs.inside.lacking.Goals as goal

pub returns-then-need-free : goal.returns-then-need-free
returns-then-need-free c = search counting

pub returns : goal.returns
returns c = search counting
