-- `shape_leaves::inside::entries_rising` meets its contract. Assumes nothing.
use native.Mathlib.Omega.{arith}
use Rattle.shape_leaves.proofs.Leaves.{orders}
use Rattle.shape_leaves.proofs.inside.entries_rising.Goals as goal

pub loop-i-init : goal.loop-i-init
loop-i-init c = λ j h l. absurd (omega arith)

pub returns-then-not-is_less : goal.returns-then-not-is_less
returns-then-not-is_less c = search orders

pub loop-i-preserved : goal.loop-i-preserved
loop-i-preserved c = search orders

pub returns : goal.returns
returns c = search orders
