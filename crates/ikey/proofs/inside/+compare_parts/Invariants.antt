-- `ikey::inside::compare_parts` meets its contract, by the layer law. It ends: at each call of itself the first part is eight bytes
-- shorter.
-- Assumes nothing.
use lib.ListN.{length}
use Rattle.ikey.proofs.inside.+compare_parts.Given as goal

abbrev pub decreases-compare_parts : goal.decreases-compare_parts
decreases-compare_parts l = length l.a.now
