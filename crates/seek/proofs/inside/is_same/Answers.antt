-- `seek::inside::is_same` meets its contract. Assumes nothing.
use Rattle.seek.proofs.Down.{downs}
use Rattle.seek.proofs.inside.is_same.Goals as goal

pub returns-in-Less : goal.returns-in-Less
returns-in-Less c = search downs

pub returns-in-Equal : goal.returns-in-Equal
returns-in-Equal c = search downs

pub returns-in-Greater : goal.returns-in-Greater
returns-in-Greater c = search downs
