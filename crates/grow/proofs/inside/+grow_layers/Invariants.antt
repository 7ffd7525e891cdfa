-- `grow::inside::grow_layers` meets its contract. Assumes nothing.
use Prim.Native.Nat.{◌-◌}
use Rattle.grow.proofs.inside.+grow_layers.Given as goal

abbrev pub decreases-grow_layers : goal.decreases-grow_layers
decreases-grow_layers l = 31 - l.links
