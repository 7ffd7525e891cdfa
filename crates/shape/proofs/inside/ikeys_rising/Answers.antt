-- `shape::inside::ikeys_rising` meets its contract. Assumes nothing.
use native.Mathlib.Omega.{arith}
use Rattle.shape.proofs.Internodes.{ikeys}
use Rattle.shape.proofs.inside.ikeys_rising.Goals as goal

pub loop-i-init : goal.loop-i-init
loop-i-init c = λ k h. absurd (omega arith)

pub returns-then-words-at : goal.returns-then-words-at
returns-then-words-at c = search ikeys

pub loop-i-preserved : goal.loop-i-preserved
loop-i-preserved c = search ikeys

pub returns : goal.returns
returns c = search ikeys
