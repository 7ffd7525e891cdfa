-- `edge::inside::is_between` meets its contract. Assumes nothing.
use Rattle.edge.proofs.Edges.{edges}
use Rattle.edge.proofs.inside.is_between.Goals as goal

pub returns-in-None : goal.returns-in-None
returns-in-None c = search edges

pub returns-in-Some : goal.returns-in-Some
returns-in-Some c = search edges
