-- `seek::inside::seek` meets its contract. Assumes nothing.
use Prim.Native.Nat.{◌-◌}
use Rattle.seek.proofs.inside.+seek.Given as goal

abbrev pub decreases-seek : goal.decreases-seek
decreases-seek l = 31 - l.links
