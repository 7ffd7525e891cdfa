-- `grow::inside::grow_layers` meets its contract. Assumes nothing.
use Prim.Native.Nat.{◌-◌}
use Rattle.grow.proofs.Layers.{conflicts}
use Rattle.grow.proofs.inside.+grow_layers.Goals as goal

pub returns-then-links-ge31 : goal.returns-then-links-ge31
returns-then-links-ge31 t c = search conflicts

pub returns-then-not-both_go_on : goal.returns-then-not-both_go_on
returns-then-not-both_go_on t c = search conflicts

pub returns : goal.returns
returns t c = search conflicts
