-- `zeros::inside::bytes_zero` meets its contract. Assumes nothing.
use Rattle.zeros.proofs.Zeros.{zeros, zero-first}
use Rattle.zeros.proofs.inside.bytes_zero.Goals as goal

pub loop-i-init : goal.loop-i-init
loop-i-init c = zero-first _ _

pub loop-i-preserved : goal.loop-i-preserved
loop-i-preserved c = search zeros

pub returns : goal.returns
returns c = search zeros
