-- `checked` meets its contract: at word i, what the sums come to from there on is the check. Assumes nothing.
use Rattle.card_block.proofs.Checks.{from_first, from_next, from_last}
use Rattle.card_block.proofs.inside.checked.Goals as goal

pub loop-i-init : goal.loop-i-init
loop-i-init c = search from_first

pub loop-i-preserved : goal.loop-i-preserved
loop-i-preserved c = search from_next

pub returns : goal.returns
returns c = search from_last
