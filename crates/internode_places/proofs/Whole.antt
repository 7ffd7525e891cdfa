-- The arrays of an internode are whole. Assumes nothing.
use mathlib.Core.Path.{◌≡◌}
use lib.ListN.{length}
use Rattle.internode_places.specs.declared.Internode.{Internode}

-- they have fifteen and sixteen places, as those of every value of the type have
pub record Whole (x : Internode) : Type 0 where
  pub ikeys-15 : length x.ikeys ≡ 15
  pub children-16 : length x.children ≡ 16
