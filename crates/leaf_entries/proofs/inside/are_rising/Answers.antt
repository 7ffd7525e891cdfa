-- `leaf_entries::inside::are_rising` meets its contract. Assumes nothing.
use native.Mathlib.Omega.{arith}
use Rattle.leaf_entries.proofs.Judged.{rising-stops, rising-goes-on, rising-all}
use Rattle.leaf_entries.proofs.inside.are_rising.Goals as goal

pub loop-i-init : goal.loop-i-init
loop-i-init c = λ j h l. absurd (omega arith)

pub returns-then-not-is_less : goal.returns-then-not-is_less
returns-then-not-is_less c = search rising-stops

pub loop-i-preserved : goal.loop-i-preserved
loop-i-preserved c = search rising-goes-on

pub returns : goal.returns
returns c = search rising-all
