-- `walk::inside::right_edge` meets its contract. Assumes nothing.
use Rattle.walk.proofs.Steps.{righted}
use Rattle.walk.proofs.inside.right_edge.Goals as goal

pub returns-then-inner : goal.returns-then-inner
returns-then-inner c = search righted

pub returns-else-inner : goal.returns-else-inner
returns-else-inner c = search righted
