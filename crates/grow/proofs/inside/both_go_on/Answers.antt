-- `grow::inside::both_go_on` meets its contract. Assumes nothing.
use Rattle.grow.proofs.Needed.{counts}
use Rattle.grow.proofs.inside.both_go_on.Goals as goal

pub returns-then-key-links : goal.returns-then-key-links
returns-then-key-links c = search counts

pub returns-then-other-links : goal.returns-then-other-links
returns-then-other-links c = search counts

pub returns : goal.returns
returns c = search counts
