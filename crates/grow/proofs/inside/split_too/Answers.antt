-- `grow::inside::split_too` meets its contract. Assumes nothing.
use Rattle.grow.proofs.Needed.{counts}
use Rattle.grow.proofs.inside.split_too.Goals as goal

pub returns-then-size-lt15 : goal.returns-then-size-lt15
returns-then-size-lt15 c = search counts

pub returns : goal.returns
returns c = search counts
