-- `keys_fit::is_reached` meets its contract. Assumes nothing.
use Rattle.key_layer.proofs.Fitting.{reached-first, reached-later}
use Rattle.keys_fit.proofs.is_reached.Goals as goal

pub returns-then-shift_count-eq0 : goal.returns-then-shift_count-eq0
returns-then-shift_count-eq0 c = search reached-first

pub returns-else-shift_count-eq0 : goal.returns-else-shift_count-eq0
returns-else-shift_count-eq0 c = search reached-later
