-- `seek::inside::place_in` meets its contract. Assumes nothing.
use Rattle.seek.proofs.Down.{downs}
use Rattle.seek.proofs.inside.place_in.Goals as goal

pub returns-clause-leaf_value : goal.returns-clause-leaf_value
returns-clause-leaf_value c = search downs

pub returns-clause-position_value : goal.returns-clause-position_value
returns-clause-position_value c = search downs
