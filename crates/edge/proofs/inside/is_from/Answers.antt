-- `edge::inside::is_from` meets its contract. Assumes nothing.
use Rattle.edge.proofs.Edges.{edges}
use Rattle.edge.proofs.inside.is_from.Goals as goal

pub returns-in-None : goal.returns-in-None
returns-in-None c = search edges

pub returns-in-Some : goal.returns-in-Some
returns-in-Some c = search edges
