-- `keys_shift_by::is_shiftable` meets its contract. Assumes nothing.
use Rattle.key_layer.proofs.Calls.{shiftable-none, shiftable-odd, shiftable-far}
use Rattle.keys_shift_by.proofs.is_shiftable.Goals as goal

pub returns-then-by-eq0 : goal.returns-then-by-eq0
returns-then-by-eq0 c = search shiftable-none

pub returns-then-by-eq0-2 : goal.returns-then-by-eq0-2
returns-then-by-eq0-2 c = search shiftable-far

pub returns-else-by-eq0-2 : goal.returns-else-by-eq0-2
returns-else-by-eq0-2 c = search shiftable-odd
